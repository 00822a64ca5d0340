use Rattle.eval_laws.specs.Fits.{anything_since}
use Rattle.eval_laws.proofs.Kept.{procs_known}
use Rattle.eval_laws.proofs.laws_of_procs.Goals as goal

pub returns : goal.returns
returns c = record { known = λ s early f ks m h. procs_known s (anything_since early) f ks m h }
