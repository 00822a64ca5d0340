use Rattle.rb_integer.proofs.Patterns.{of_either}
use Rattle.rb_integer.proofs.bits.bit_or.Goals as goal

pub returns-clause-bits : goal.returns-clause-bits
returns-clause-bits c = of_either c.args.x c.args.y c.ranges.x c.ranges.y
