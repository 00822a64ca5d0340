use Rattle.items_laws.proofs.Slid.{slides}
use Rattle.items_laws.proofs.neighbours_are_handed_on.Goals as goal

-- src/lib.rt
pub returns : goal.returns
returns c = slides
