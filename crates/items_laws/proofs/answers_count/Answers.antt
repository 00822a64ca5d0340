use Rattle.items_laws.proofs.Counted.{placed, numbered, taken}
use Rattle.items_laws.proofs.answers_count.Goals as goal

-- src/lib.rt
pub returns-clause-place : goal.returns-clause-place
returns-clause-place c = placed

pub returns-clause-number : goal.returns-clause-number
returns-clause-number c = numbered

pub returns-clause-take_while : goal.returns-clause-take_while
returns-clause-take_while c = taken
