use Rattle.parser_tree.proofs.Views.{view-Unless}
use Rattle.parser_form_nodes.proofs.sections.unless_of.Goals as goal

pub returns : goal.returns
returns c = view-Unless c.args.test c.args.body c.args.otherwise
