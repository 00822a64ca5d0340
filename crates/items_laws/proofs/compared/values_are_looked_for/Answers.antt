use Rattle.items_laws.proofs.Found.{key_found, value_found}
use Rattle.items_laws.proofs.compared.values_are_looked_for.Goals as goal

-- src/compared.rt
pub returns-clause-key : goal.returns-clause-key
returns-clause-key c = key_found

pub returns-clause-value : goal.returns-clause-value
returns-clause-value c = value_found
