use Rattle.iter_items.proofs.Started.{without_items}
use Rattle.iter_items.proofs.items.start_visit.Goals as goal

pub returns-in-None : goal.returns-in-None
returns-in-None c =
    let a = c.in_ok-given.ensures.arguments in
    let i = c.in-Ok.is in
    let s = c.in_ok-source.ensures in
    let b = c.is_backwards.ensures in
    let n = c.in-None.is in
    without_items c.args.heap.now c.given.new.heap c.args.task c.args.call.receiver c.args.call.args.now
    c.args.call.block c.in-Ok.given c.refusal.result (cc) c.in_ok-given.ensures.store (cc) c.refusal.ensures.cause
