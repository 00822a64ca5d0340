use Rattle.iter_items.proofs.Started.{compares_next}
use Rattle.iter_items.proofs.items.next.Goals as goal

pub returns-in_ok-next-in-Compares : goal.returns-in_ok-next-in-Compares
returns-in_ok-next-in-Compares c =
    let i = c.in-Compares.is in
    compares_next c.args.heap.now c.next.new.heap c.args.state c.in-Compares.state c.args.answer
    c.in_ok-next-in-Compares.field-0 c.lift.result (cc) c.lift.ensures c.in_ok-next-in-Compares.ensures
