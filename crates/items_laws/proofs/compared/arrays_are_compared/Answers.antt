use Rattle.items_laws.proofs.Paired.{equality_found, order_found}
use Rattle.items_laws.proofs.compared.arrays_are_compared.Goals as goal

-- src/compared.rt
pub returns-clause-equal : goal.returns-clause-equal
returns-clause-equal c = equality_found

pub returns-clause-order : goal.returns-clause-order
returns-clause-order c = order_found
