use Rattle.std.proofs.Common.{arith}
use Rattle.rows_items.proofs.Walks.{passed_deep, passed_equal, entered}
use Rattle.rows_items.proofs.order.Walk.pass.Goals as goal

pub returns-then-self-eq0 : goal.returns-then-self-eq0
returns-then-self-eq0 c =
    let e = c.compared.ensures in
    let i = c.in-Within.is in
    passed_deep c.args.heap.now.store c.args.left c.args.right c.in-Within.left c.in-Within.right c.args.self.now (cc)
    c.if-self-eq0.true

pub returns-in-Ordered-Equal : goal.returns-in-Ordered-Equal
returns-in-Ordered-Equal c =
    let e = c.compared.ensures in
    let i = c.in-Ordered-Equal.is in
    let f = c.in-Ordered-Equal.field-0-is in
    passed_equal c.args.heap.now.store c.args.left c.args.right c.args.self.now (cc)

pub returns-in_ok-enter-in-Within : goal.returns-in_ok-enter-in-Within
returns-in_ok-enter-in-Within c =
    let e = c.compared.ensures in
    let i = c.in-Within.is in
    let n = c.if-self-eq0.false in
    entered c.args.heap.now.store c.args.left c.args.right c.in-Within.left c.in-Within.right c.args.self.now
    c.enter.new.self (cc) (omega (arith, n)) c.in_ok-enter-in-Within.ensures.level c.in_ok-enter-in-Within.ensures.around
