use Rattle.iter_items.specs.Steps.{Leads}
use Rattle.iter_items.proofs.driving.advance.Given as goal

abbrev pub invariant-answers : goal.invariant-answers
invariant-answers l = Leads l.fn.heap l.fn.visit l.fn.wish l.heap l.visit l.wish
