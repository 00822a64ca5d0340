use Rattle.iter_items.proofs.Started.{compares_start}
use Rattle.iter_items.proofs.items.start.Goals as goal

pub returns-in_ok-start-in-Compares : goal.returns-in_ok-start-in-Compares
returns-in_ok-start-in-Compares c =
    let i = c.in-Compares.is in
    compares_start c.args.heap.now c.start.new.heap c.args.row c.in-Compares.row c.args.call.receiver
    c.args.call.args.now c.args.call.block c.in_ok-start-in-Compares.field-0 c.lift.result (cc) c.lift.ensures
    c.in_ok-start-in-Compares.ensures
