use Rattle.items_laws.proofs.Wrote.{array_written, hash_written}
use Rattle.items_laws.proofs.written.values_are_written.Goals as goal

-- src/written.rt
pub returns-clause-array : goal.returns-clause-array
returns-clause-array c = array_written

pub returns-clause-hash : goal.returns-clause-hash
returns-clause-hash c = hash_written
