use Rattle.items_laws.proofs.Whole.{array_mapped}
use Rattle.items_laws.proofs.map_of_an_array.Goals as goal

-- src/lib.rt
pub returns : goal.returns
returns c = array_mapped
