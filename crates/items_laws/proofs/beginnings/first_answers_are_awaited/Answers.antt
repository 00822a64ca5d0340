use Rattle.items_laws.proofs.Once.{once_awaited}
use Rattle.items_laws.proofs.beginnings.first_answers_are_awaited.Goals as goal

-- src/beginnings.rt
pub returns : goal.returns
returns c = once_awaited
