use Rattle.parser_tree.proofs.Views.{view-For}
use Rattle.parser_form_nodes.proofs.sections.for_of.Goals as goal

pub returns : goal.returns
returns c = view-For c.args.targets c.args.items c.args.body
