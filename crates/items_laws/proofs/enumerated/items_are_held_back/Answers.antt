use Rattle.items_laws.proofs.Enumerating.{next_held, peek_held, rewinds}
use Rattle.items_laws.proofs.enumerated.items_are_held_back.Goals as goal

-- src/enumerated.rt
pub returns-clause-next : goal.returns-clause-next
returns-clause-next c = next_held

pub returns-clause-peek : goal.returns-clause-peek
returns-clause-peek c = peek_held

pub returns-clause-rewind : goal.returns-clause-rewind
returns-clause-rewind c = rewinds
