use Rattle.rb_integer.proofs.Patterns.{of_one}
use Rattle.rb_integer.proofs.bits.bit_xor.Goals as goal

pub returns-clause-bits : goal.returns-clause-bits
returns-clause-bits c = of_one c.args.x c.args.y c.ranges.x c.ranges.y
