use Rattle.items_laws.proofs.Placed.{lies_between, clamped}
use Rattle.items_laws.proofs.asked.a_value_is_placed.Goals as goal

-- src/asked.rt
pub returns-clause-between : goal.returns-clause-between
returns-clause-between c = lies_between

pub returns-clause-clamp : goal.returns-clause-clamp
returns-clause-clamp c = clamped
