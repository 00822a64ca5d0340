use Rattle.items_laws.proofs.Enumerating.{next_begins, next_goes_on, peek_begins, peek_goes_on}
use Rattle.items_laws.proofs.enumerated.items_come_from_the_source.Goals as goal

-- src/enumerated.rt
pub returns-clause-next : goal.returns-clause-next
returns-clause-next c = next_goes_on

pub returns-clause-peek : goal.returns-clause-peek
returns-clause-peek c = peek_goes_on

pub returns-clause-first_next : goal.returns-clause-first_next
returns-clause-first_next c = next_begins

pub returns-clause-first_peek : goal.returns-clause-first_peek
returns-clause-first_peek c = peek_begins
