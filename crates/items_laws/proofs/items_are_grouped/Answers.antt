use Rattle.items_laws.proofs.Grouping.{grouped}
use Rattle.items_laws.proofs.items_are_grouped.Goals as goal

-- src/lib.rt
pub returns : goal.returns
returns c = grouped
