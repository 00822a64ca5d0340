use Rattle.parser_tree.proofs.Views.{view-Case}
use Rattle.parser_form_nodes.proofs.sections.case_of.Goals as goal

pub returns : goal.returns
returns c = view-Case c.args.subject c.args.clauses c.args.otherwise
