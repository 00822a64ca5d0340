use Rattle.rb_integer.proofs.Patterns.{of_both}
use Rattle.rb_integer.proofs.bits.bit_and.Goals as goal

pub returns-clause-bits : goal.returns-clause-bits
returns-clause-bits c = of_both c.args.x c.args.y c.ranges.x c.ranges.y
