use Rattle.items_laws.proofs.Fetched.{new_empty, new_of_nil, new_of_one, new_hash, repeats}
use Rattle.items_laws.proofs.stored.new_ones_are_filled.Goals as goal

-- src/stored.rt
pub returns-clause-empty : goal.returns-clause-empty
returns-clause-empty c = new_empty

pub returns-clause-nils : goal.returns-clause-nils
returns-clause-nils c = new_of_nil

pub returns-clause-values : goal.returns-clause-values
returns-clause-values c = new_of_one

pub returns-clause-hash : goal.returns-clause-hash
returns-clause-hash c = new_hash

pub returns-clause-times : goal.returns-clause-times
returns-clause-times c = repeats
