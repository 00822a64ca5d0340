use Rattle.items_laws.proofs.Telling.{message_untold, inspect_untold}
use Rattle.items_laws.proofs.raised.exceptions_are_untold.Goals as goal

-- src/raised.rt
pub returns-clause-message : goal.returns-clause-message
returns-clause-message c = message_untold

pub returns-clause-inspect : goal.returns-clause-inspect
returns-clause-inspect c = inspect_untold
