use Rattle.std.proofs.Common.{◌∙◌}
use Rattle.rb_integer.proofs.Shifts.{small_left}
use Rattle.rb_integer.proofs.bits.multiply_by_power.Goals as goal

pub returns-then-count-lt63 : goal.returns-then-count-lt63
returns-then-count-lt63 c = c.checked.ensures
    ∙ small_left c.args.x c.args.count c.checked_mul.result c.ranges.x c.if-count-lt63.true c.checked_mul.ensures
