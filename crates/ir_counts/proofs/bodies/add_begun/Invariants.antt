use Rattle.std.proofs.Common.{◌≡◌, ◌++◌, map, drop}
use Rattle.ir_counts.specs.Bodies.{begun}
use Rattle.ir_walk.specs.Steps.{body, steps}
use Rattle.ir_counts.proofs.bodies.add_begun.Given as goal

abbrev pub invariant-loop-step : goal.invariant-loop-step
invariant-loop-step l = map body l.fn.list.items ++ begun (steps l.fn.steps) ≡ map body l.list.items
    ++ begun (steps (drop l.step-index l.steps))
