use Rattle.iter_items.proofs.Visited.{visits_item}
use Rattle.iter_items.proofs.asking.ask_item.Goals as goal

pub returns-in-Some : goal.returns-in-Some
returns-in-Some c =
    let i = c.in-Some.is in
    let e = c.in_ok-item.ensures.item in
    visits_item c.args.heap.now c.next_item.new.heap c.args.visit.now c.next_item.new.visit c.ask_of.new.visit
    c.in-Some.item c.ask_of.result (cc) c.in_ok-item.ensures.visit c.in_ok-item.ensures.heap c.ask_of.ensures
