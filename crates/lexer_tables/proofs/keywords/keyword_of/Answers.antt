use Rattle.lexer_tables.proofs.Spelled.{found_by, all_spelled}
use Rattle.lexer_tables.proofs.keywords.keyword_of.Goals as goal

pub returns-clause-so : goal.returns-clause-so
returns-clause-so c = all_spelled c.args.word.now c.by_length.result c.by_length.ensures

pub returns-clause-found : goal.returns-clause-found
returns-clause-found c = found_by c.args.word.now c.by_length.result c.by_length.ensures
