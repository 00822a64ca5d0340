use Rattle.items_laws.proofs.Places.{each_index}
use Rattle.items_laws.proofs.places_are_handed_on.Goals as goal

-- src/lib.rt
pub returns : goal.returns
returns c = each_index
