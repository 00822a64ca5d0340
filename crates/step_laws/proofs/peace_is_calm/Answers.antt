use Rattle.step_laws.proofs.Steady.{peace_is_calm}
use Rattle.step_laws.proofs.peace_is_calm.Goals as goal

pub returns : goal.returns
returns c = λ b p input h peace n. peace_is_calm b p input h peace n
