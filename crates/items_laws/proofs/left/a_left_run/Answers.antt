use Rattle.items_laws.proofs.Witness.{a_left_run}
use Rattle.items_laws.proofs.left.a_left_run.Goals as goal

-- src/left.rt
pub returns : goal.returns
returns c = a_left_run
