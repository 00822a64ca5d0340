use Rattle.iter_items.proofs.Started.{includes_so}
use Rattle.iter_items.proofs.gathering.gather.Goals as goal

pub returns-in_ok-start-in-Includes : goal.returns-in_ok-start-in-Includes
returns-in_ok-start-in-Includes c =
    let i = c.in-Includes.is in
    let s = c.as_slice.ensures in
    includes_so c.args.heap.now c.start.new.heap c.args.gathering.now c.args.array c.as_slice.result.now
    c.in_ok-start-in-Includes.field-0 c.lift.result (cc) (cc) c.lift.ensures c.in_ok-start-in-Includes.ensures
