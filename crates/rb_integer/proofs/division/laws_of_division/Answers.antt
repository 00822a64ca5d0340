use Rattle.rb_integer.proofs.DivisionLaws.{floor_division}
use Rattle.rb_integer.proofs.division.laws_of_division.Goals as goal

pub returns : goal.returns
returns c = floor_division
