use Rattle.std.proofs.Common.{◌≡◌}
use Rattle.core_iter.proofs.Lifted.{items_next}
use Rattle.core_iter.proofs.planning.next.Goals as goal

pub returns-in_ok-next-in-Items : goal.returns-in_ok-next-in-Items
returns-in_ok-next-in-Items c =
    let i = c.in-Items.is in
    items_next c.args.heap.now c.next.new.heap c.args.state c.in-Items.state c.args.answer
    c.in_ok-next-in-Items.field-0 c.lift.result (cc) c.lift.ensures c.in_ok-next-in-Items.ensures
