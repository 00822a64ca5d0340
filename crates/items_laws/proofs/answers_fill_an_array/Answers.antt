use Rattle.items_laws.proofs.Filled.{array_filled}
use Rattle.items_laws.proofs.answers_fill_an_array.Goals as goal

-- src/lib.rt
pub returns : goal.returns
returns c = array_filled
