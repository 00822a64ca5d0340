use Rattle.def_plans.specs.Plan.{Planned}
use Rattle.iter_comparing.specs.Asking.{Comes}
use Rattle.iter_comparing.specs.Stage.{Stage}
use Rattle.iter_comparing.proofs.asking.advance.Given as goal

abbrev pub invariant-answers : goal.invariant-answers
invariant-answers l = (p : Planned Stage) → Comes l.name l.heap l.work p → Comes l.name l.fn.heap l.fn.work p
