use Rattle.items_laws.proofs.Stopped.{stopped}
use Rattle.items_laws.proofs.left.loops_are_stopped.Goals as goal

-- src/left.rt
pub returns : goal.returns
returns c = stopped
