use Rattle.items_laws.proofs.Combined.{combined_from, combined}
use Rattle.items_laws.proofs.asked.items_are_combined.Goals as goal

-- src/asked.rt
pub returns-clause-from_value : goal.returns-clause-from_value
returns-clause-from_value c = combined_from

pub returns-clause-from_first : goal.returns-clause-from_first
returns-clause-from_first c = combined
