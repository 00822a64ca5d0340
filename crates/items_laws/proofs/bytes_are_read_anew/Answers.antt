use Rattle.items_laws.proofs.Bytes.{each_byte}
use Rattle.items_laws.proofs.bytes_are_read_anew.Goals as goal

-- src/lib.rt
pub returns : goal.returns
returns c = each_byte
