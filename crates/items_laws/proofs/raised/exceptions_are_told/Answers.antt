use Rattle.items_laws.proofs.Telling.{message_told, inspect_told}
use Rattle.items_laws.proofs.raised.exceptions_are_told.Goals as goal

-- src/raised.rt
pub returns-clause-message : goal.returns-clause-message
returns-clause-message c = message_told

pub returns-clause-inspect : goal.returns-clause-inspect
returns-clause-inspect c = inspect_told
