use Rattle.items_laws.proofs.Unequal.{other_array, unordered_array, other_hash}
use Rattle.items_laws.proofs.compared.others_are_unequal.Goals as goal

-- src/compared.rt
pub returns-clause-array : goal.returns-clause-array
returns-clause-array c = other_array

pub returns-clause-order : goal.returns-clause-order
returns-clause-order c = unordered_array

pub returns-clause-hash : goal.returns-clause-hash
returns-clause-hash c = other_hash
