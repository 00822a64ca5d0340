use Rattle.rb_syntax.specs.declared.outside.Outside.TheVariants.{PatternMatch}
use Rattle.parser_tree.proofs.Views.{view-Outside}
use Rattle.parser_form_nodes.proofs.sections.pattern_of.Goals as goal

pub returns : goal.returns
returns c = view-Outside PatternMatch c.args.at c.args.parts
