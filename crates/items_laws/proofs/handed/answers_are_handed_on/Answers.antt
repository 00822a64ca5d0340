use Rattle.items_laws.proofs.Handing.{calls_proc, taps, thens, sends_on, sends_publicly, makes_new}
use Rattle.items_laws.proofs.handed.answers_are_handed_on.Goals as goal

-- src/handed.rt
pub returns-clause-proc : goal.returns-clause-proc
returns-clause-proc c = calls_proc

pub returns-clause-tap : goal.returns-clause-tap
returns-clause-tap c = taps

pub returns-clause-then : goal.returns-clause-then
returns-clause-then c = thens

pub returns-clause-send : goal.returns-clause-send
returns-clause-send c = sends_on

pub returns-clause-public_send : goal.returns-clause-public_send
returns-clause-public_send c = sends_publicly

pub returns-clause-new : goal.returns-clause-new
returns-clause-new c = makes_new
