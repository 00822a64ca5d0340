use Rattle.std.proofs.Common.{ap, ◌∙◌}
use Rattle.rb_string.proofs.Orders.{sign, order_is}
use Rattle.rb_string.proofs.comparison.order.Goals as goal

pub returns-in-Less : goal.returns-in-Less
returns-in-Less c = ap sign c.in-Less.ensures ∙ order_is c.args.text.now c.args.other.now

pub returns-in-Equal : goal.returns-in-Equal
returns-in-Equal c = ap sign c.in-Equal.ensures ∙ order_is c.args.text.now c.args.other.now

pub returns-in-Greater : goal.returns-in-Greater
returns-in-Greater c = ap sign c.in-Greater.ensures ∙ order_is c.args.text.now c.args.other.now
