use Rattle.items_laws.proofs.Found.{index_found, included}
use Rattle.items_laws.proofs.compared.elements_are_looked_for.Goals as goal

-- src/compared.rt
pub returns-clause-index : goal.returns-clause-index
returns-clause-index c = index_found

pub returns-clause-included : goal.returns-clause-included
returns-clause-included c = included
