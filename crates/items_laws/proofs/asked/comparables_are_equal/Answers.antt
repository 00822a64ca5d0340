use Rattle.items_laws.proofs.Placed.{equal_itself, equal_by_zero}
use Rattle.items_laws.proofs.asked.comparables_are_equal.Goals as goal

-- src/asked.rt
pub returns-clause-itself : goal.returns-clause-itself
returns-clause-itself c = equal_itself

pub returns-clause-other : goal.returns-clause-other
returns-clause-other c = equal_by_zero
