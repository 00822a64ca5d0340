use Rattle.items_laws.proofs.Sifting.{hash_selected, hash_rejected}
use Rattle.items_laws.proofs.select_makes_a_hash.Goals as goal

-- src/lib.rt
pub returns-clause-select : goal.returns-clause-select
returns-clause-select c = hash_selected

pub returns-clause-reject : goal.returns-clause-reject
returns-clause-reject c = hash_rejected
