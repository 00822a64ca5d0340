use Rattle.items_laws.proofs.Uncombined.{nothing_by_block, nothing_by_name}
use Rattle.items_laws.proofs.asked.nothing_is_combined.Goals as goal

-- src/asked.rt
pub returns-clause-block : goal.returns-clause-block
returns-clause-block c = nothing_by_block

pub returns-clause-name : goal.returns-clause-name
returns-clause-name c = nothing_by_name
