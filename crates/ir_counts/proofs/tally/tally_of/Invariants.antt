use Rattle.std.proofs.Common.{◌≡◌, drop}
use Rattle.ir_walk.specs.Steps.{steps}
use Rattle.ir_counts.specs.Tally.{tallied, no_form}
use Rattle.ir_counts.proofs.tally.tally_of.Given as goal

abbrev pub invariant-loop-step : goal.invariant-loop-step
invariant-loop-step l = tallied no_form (steps l.steps) ≡ tallied l.tally (steps (drop l.step-index l.steps))
