use Rattle.parser_tree.proofs.Views.{view-If}
use Rattle.parser_form_nodes.proofs.sections.if_of.Goals as goal

pub returns : goal.returns
returns c = view-If c.args.branches c.args.otherwise
