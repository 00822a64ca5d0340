use Rattle.parser_tree.proofs.Views.{view-Begin}
use Rattle.parser_form_nodes.proofs.sections.begin_of.Goals as goal

pub returns : goal.returns
returns c = view-Begin c.args.body
