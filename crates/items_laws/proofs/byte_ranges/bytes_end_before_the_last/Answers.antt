use Rattle.items_laws.proofs.ByteRanges.{bytes_before_end, no_byte_before}
use Rattle.items_laws.proofs.byte_ranges.bytes_end_before_the_last.Goals as goal

-- src/byte_ranges.rt
pub returns-clause-before : goal.returns-clause-before
returns-clause-before c = bytes_before_end

pub returns-clause-none : goal.returns-clause-none
returns-clause-none c = no_byte_before
