use Rattle.lexer_tables.proofs.MarkLaws.{longest_found, found_so}
use Rattle.lexer_tables.proofs.marks.mark_of.Goals as goal

pub returns-clause-so : goal.returns-clause-so
returns-clause-so c = found_so c.by_first.result c.args.first c.args.second c.args.third c.by_first.ensures.value

pub returns-clause-longest : goal.returns-clause-longest
returns-clause-longest c = longest_found c.by_first.result c.args.first c.args.second c.args.third
    c.by_first.ensures.value
