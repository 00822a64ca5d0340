use Rattle.world_laws.specs.Anywhere.{anywhere}
use Rattle.world_laws.proofs.Plans.{next_is, caught_is}
use Rattle.world_laws.proofs.Ending.{one_of_is, read_is}
use Rattle.world_laws.proofs.Entering.{report_begins}
use Rattle.world_laws.proofs.iterations_keep_the_world.Goals as goal

pub returns-clause-next : goal.returns-clause-next
returns-clause-next c = λ w it v fine. next_is anywhere w fine it v

pub returns-clause-caught : goal.returns-clause-caught
returns-clause-caught c = λ w it e fine. caught_is anywhere w fine it e

pub returns-clause-resumed : goal.returns-clause-resumed
returns-clause-resumed c = λ w vs fine. one_of_is anywhere w fine vs

pub returns-clause-read : goal.returns-clause-read
returns-clause-read c = λ w fine. read_is anywhere w fine

pub returns-clause-reported : goal.returns-clause-reported
returns-clause-reported c = λ w e fine. report_begins anywhere w fine e
