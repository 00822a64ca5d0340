use Rattle.items_laws.proofs.Thinned.{elements_thinned}
use Rattle.items_laws.proofs.answers_thin_out.Goals as goal

-- src/lib.rt
pub returns : goal.returns
returns c = elements_thinned
