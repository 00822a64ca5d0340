use Rattle.eval_laws.specs.Fits.{anything_since}
use Rattle.eval_laws.proofs.Kept.{goes_on}
use Rattle.eval_laws.proofs.laws_of_transitions.Goals as goal

pub returns-clause-goes_on : goal.returns-clause-goes_on
returns-clause-goes_on c = λ s early f ks m h. goes_on s (anything_since early) f ks m h
