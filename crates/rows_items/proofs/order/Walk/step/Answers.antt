use Rattle.rows_items.proofs.Walks.{left_comes}
use Rattle.rows_items.proofs.order.Walk.step.Goals as goal

pub returns-in-None-None : goal.returns-in-None-None
returns-in-None-None c =
    let e = c.element_at-left.ensures.element in
    let g = c.element_at-right.ensures.element in
    let i = c.in-None-None.is-0 in
    let j = c.in-None-None.is-1 in
    left_comes c.args.heap.now.store c.leave.result c.args.self.now c.leave.new.self (cc) (cc) c.leave.ensures
