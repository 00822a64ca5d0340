use Rattle.items_laws.proofs.CutSieved.{difference_left, intersection_left, union_left}
use Rattle.items_laws.proofs.beginnings.sieves_are_left.Goals as goal

-- src/beginnings.rt
pub returns-clause-difference : goal.returns-clause-difference
returns-clause-difference c = difference_left

pub returns-clause-intersection : goal.returns-clause-intersection
returns-clause-intersection c = intersection_left

pub returns-clause-union : goal.returns-clause-union
returns-clause-union c = union_left
