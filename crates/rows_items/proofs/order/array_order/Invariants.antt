use Rattle.std.proofs.Common.{◌≡◌}
use Rattle.rows_items.specs.Order.{arrays_order, order_within}
use Rattle.rows_items.specs.Walks.{whole, steps}
use Rattle.rows_items.proofs.order.array_order.Given as goal

abbrev pub invariant-steps : goal.invariant-steps
invariant-steps l = whole l.heap.store l.walk
    ≡ arrays_order (order_within 9999 l.heap.store) l.heap.store l.fn.left l.fn.right

abbrev pub decreases-steps : goal.decreases-steps
decreases-steps l = steps l.heap.store l.walk
