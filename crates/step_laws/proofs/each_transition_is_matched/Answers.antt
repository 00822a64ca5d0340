use Rattle.step_laws.proofs.Whole.{step_law, opening_related}
use Rattle.step_laws.proofs.each_transition_is_matched.Goals as goal

pub returns : goal.returns
returns c = record { law = λ s p. step_law s p; begun = λ s p input code. opening_related s p input code }
