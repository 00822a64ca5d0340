use Rattle.items_laws.proofs.Sliced.{sliced, slice_of_array}
use Rattle.items_laws.proofs.slices_are_handed_on.Goals as goal

-- src/lib.rt
pub returns-clause-slices : goal.returns-clause-slices
returns-clause-slices c = sliced

pub returns-clause-array : goal.returns-clause-array
returns-clause-array c = slice_of_array
