use Rattle.items_laws.proofs.Witness.{a_run}
use Rattle.items_laws.proofs.a_run.Goals as goal

-- src/lib.rt
pub returns : goal.returns
returns c = a_run
