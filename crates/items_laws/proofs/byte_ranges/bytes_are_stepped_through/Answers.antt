use Rattle.items_laws.proofs.ByteSteps.{bytes_stepped, bytes_stepped_before, no_byte_stepped}
use Rattle.items_laws.proofs.byte_ranges.bytes_are_stepped_through.Goals as goal

-- src/byte_ranges.rt
pub returns-clause-range : goal.returns-clause-range
returns-clause-range c = bytes_stepped

pub returns-clause-range_before : goal.returns-clause-range_before
returns-clause-range_before c = bytes_stepped_before

pub returns-clause-none : goal.returns-clause-none
returns-clause-none c = no_byte_stepped
