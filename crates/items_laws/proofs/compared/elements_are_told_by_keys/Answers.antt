use Rattle.items_laws.proofs.SievedKeys.{difference_told, intersection_told, union_told}
use Rattle.items_laws.proofs.compared.elements_are_told_by_keys.Goals as goal

-- src/compared.rt
pub returns-clause-difference : goal.returns-clause-difference
returns-clause-difference c = difference_told

pub returns-clause-intersection : goal.returns-clause-intersection
returns-clause-intersection c = intersection_told

pub returns-clause-union : goal.returns-clause-union
returns-clause-union c = union_told
