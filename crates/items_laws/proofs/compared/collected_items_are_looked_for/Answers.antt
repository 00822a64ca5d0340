use Rattle.items_laws.proofs.Included.{included_of_each}
use Rattle.items_laws.proofs.compared.collected_items_are_looked_for.Goals as goal

-- src/compared.rt
pub returns : goal.returns
returns c = included_of_each
