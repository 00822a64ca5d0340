use Rattle.iter_items.specs.declared.wish.Wish.TheVariants.{Asks}
use Rattle.iter_items.proofs.Wanted.{halts_still, halts_raising, stays_none}
use Rattle.iter_items.proofs.driving.take_step.Goals as goal

pub returns-in-Some-Raises : goal.returns-in-Some-Raises
returns-in-Some-Raises c =
    let w = c.in-Asks.is in
    let i = c.in-Some-Raises.is in
    let f = c.in-Some-Raises.field-0-is in
    let d = c.in-Some-Raises.id-is in
    let g = c.in_ok-answer.ensures.given in
    halts_raising c.args.heap.now c.answer_at_once.new.heap c.args.visit.now c.answer_at_once.new.visit c.args.wish
    c.in-Asks.receiver c.in-Asks.argument _ (cc) (cc)

pub returns-in-None : goal.returns-in-None
returns-in-None c =
    let w = c.in-Asks.is in
    let i = c.in-None.is in
    halts_still c.args.heap.now c.answer_at_once.new.heap c.args.visit.now c.answer_at_once.new.visit c.args.wish
    (Asks c.in-Asks.receiver c.in-Asks.argument) (cc)
    (stays_none c.args.heap.now c.answer_at_once.new.heap c.in_ok-answer.field-0 (cc) c.in_ok-answer.ensures.stays)
    c.answer_at_once.ensures.visit
