use Rattle.items_laws.proofs.Sieved.{difference_sieved, intersection_sieved, union_sieved}
use Rattle.items_laws.proofs.compared.elements_are_sieved.Goals as goal

-- src/compared.rt
pub returns-clause-difference : goal.returns-clause-difference
returns-clause-difference c = difference_sieved

pub returns-clause-intersection : goal.returns-clause-intersection
returns-clause-intersection c = intersection_sieved

pub returns-clause-union : goal.returns-clause-union
returns-clause-union c = union_sieved
