use Rattle.items_laws.proofs.ByteRanges.{bytes_each}
use Rattle.items_laws.proofs.bytes_are_handed_on.Goals as goal

-- src/lib.rt
pub returns : goal.returns
returns c = bytes_each
