use Rattle.std.proofs.Common.{◌≡◌, drop}
use Rattle.ir_core.specs.PartsBy.{pairs_by}
use Rattle.ir_walk.specs.Steps.{steps}
use Rattle.ir_walk.specs.Walk.{walked_pairs}
use Rattle.ir_walk.proofs.walk_parts.walk_pairs.Given as goal

abbrev pub invariant-loop-pair : goal.invariant-loop-pair
invariant-loop-pair g l =
    walked_pairs l.extent (steps l.trail.items) (pairs_by g.T.Walked.form (drop l.pair-index l.pairs.items)) ≡ walked_pairs
    l.extent (steps l.fn.trail.items) (pairs_by g.T.Walked.form l.pairs.items)
