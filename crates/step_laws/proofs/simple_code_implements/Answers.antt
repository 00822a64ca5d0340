use Rattle.step_laws.proofs.Calms.{stays_calm}
use Rattle.step_laws.proofs.simple_code_implements.Goals as goal

pub returns-clause-calm : goal.returns-clause-calm
returns-clause-calm c = λ s p input is. stays_calm s p input is
