use Rattle.code_outline.proofs.Kept.{lays, nests}
use Rattle.code_outline.proofs.laws_of_outlines.Goals as goal

pub returns : goal.returns
returns c = record { lays = lays; nests = nests }
