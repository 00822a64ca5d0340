use Rattle.items_laws.proofs.Places.{index_left}
use Rattle.items_laws.proofs.left.places_are_left.Goals as goal

-- src/left.rt
pub returns : goal.returns
returns c = index_left
