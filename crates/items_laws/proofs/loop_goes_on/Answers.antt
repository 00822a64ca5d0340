use Rattle.items_laws.proofs.Looped.{loops_on, never_gives}
use Rattle.items_laws.proofs.loop_goes_on.Goals as goal

-- src/lib.rt
pub returns-clause-calls : goal.returns-clause-calls
returns-clause-calls c = loops_on

pub returns-clause-endless : goal.returns-clause-endless
returns-clause-endless c = never_gives
