use Rattle.std.proofs.Common.{◌≡◌, drop}
use Rattle.ir_core.specs.PartsBy.{cores_by}
use Rattle.ir_walk.specs.Steps.{steps}
use Rattle.ir_walk.specs.Walk.{walked_all}
use Rattle.ir_walk.proofs.walk_parts.walk_all.Given as goal

abbrev pub invariant-loop-core : goal.invariant-loop-core
invariant-loop-core g l =
    walked_all l.extent (steps l.trail.items) (cores_by g.T.Walked.form (drop l.core-index l.list.items)) ≡ walked_all
    l.extent (steps l.fn.trail.items) (cores_by g.T.Walked.form l.list.items)
