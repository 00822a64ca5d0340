use Rattle.items_laws.proofs.Ordered.{least, greatest, ordered}
use Rattle.items_laws.proofs.answers_order.Goals as goal

-- src/lib.rt
pub returns-clause-least : goal.returns-clause-least
returns-clause-least c = least

pub returns-clause-greatest : goal.returns-clause-greatest
returns-clause-greatest c = greatest

pub returns-clause-sort : goal.returns-clause-sort
returns-clause-sort c = ordered
