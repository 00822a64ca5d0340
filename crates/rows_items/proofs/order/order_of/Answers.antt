use Rattle.rows_items.proofs.Walks.{at_once}
use Rattle.rows_items.proofs.order.order_of.Goals as goal

pub returns-in-Ordered : goal.returns-in-Ordered
returns-in-Ordered c =
    let e = c.compared.ensures in
    let i = c.in-Ordered.is in
    at_once c.args.heap.now.store c.args.left c.args.right c.in-Ordered.order (cc)
