use Rattle.items_laws.proofs.CutPlaced.{clamped_cut, lies_cut}
use Rattle.items_laws.proofs.beginnings.placings_are_left.Goals as goal

-- src/beginnings.rt
pub returns-clause-between : goal.returns-clause-between
returns-clause-between c = lies_cut

pub returns-clause-clamp : goal.returns-clause-clamp
returns-clause-clamp c = clamped_cut
