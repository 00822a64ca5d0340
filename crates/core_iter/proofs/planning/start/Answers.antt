use Rattle.std.proofs.Common.{◌≡◌}
use Rattle.core_iter.proofs.Lifted.{items_start}
use Rattle.core_iter.proofs.planning.start.Goals as goal

pub returns-in_ok-start-in-Items : goal.returns-in_ok-start-in-Items
returns-in_ok-start-in-Items c =
    let i = c.in-Items.is in
    items_start c.args.heap.now c.start.new.heap c.args.row c.in-Items.row c.args.call.receiver c.args.call.args.now
    c.args.call.block c.in_ok-start-in-Items.field-0 c.lift.result (cc) c.lift.ensures c.in_ok-start-in-Items.ensures
