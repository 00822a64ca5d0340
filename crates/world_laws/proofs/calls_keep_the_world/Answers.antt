use Rattle.world_laws.specs.Anywhere.{anywhere}
use Rattle.world_laws.proofs.Calling.{call_is, send_is}
use Rattle.world_laws.proofs.Entering.{proc_enters, row_is}
use Rattle.world_laws.proofs.calls_keep_the_world.Goals as goal

pub returns-clause-call : goal.returns-clause-call
returns-clause-call c = λ w a s recv args block fine. call_is anywhere w fine a s recv args block

pub returns-clause-sent : goal.returns-clause-sent
returns-clause-sent c = λ w name recv args block public fine symbol is all proc. send_is anywhere w fine name recv args block symbol is all proc public

pub returns-clause-of_proc : goal.returns-clause-of_proc
returns-clause-of_proc c = λ w p args block fine is all proc. proc_enters anywhere w fine args block all proc p is

pub returns-clause-of_row : goal.returns-clause-of_row
returns-clause-of_row c = λ w row recv args block fine is all proc. row_is anywhere w fine args block all proc row recv is
