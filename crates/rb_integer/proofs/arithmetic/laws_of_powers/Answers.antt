use Rattle.rb_integer.proofs.PowerLaws.{power_of_none, power_of_more}
use Rattle.rb_integer.proofs.arithmetic.laws_of_powers.Goals as goal

pub returns : goal.returns
returns c = record {
  none = power_of_none;
  more = power_of_more;
}
