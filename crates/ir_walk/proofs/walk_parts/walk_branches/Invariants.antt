use Rattle.std.proofs.Common.{◌≡◌, drop}
use Rattle.ir_core.specs.PartsBy.{branches_by}
use Rattle.ir_walk.specs.Steps.{steps}
use Rattle.ir_walk.specs.Walk.{walked_branches}
use Rattle.ir_walk.proofs.walk_parts.walk_branches.Given as goal

abbrev pub invariant-loop-branch : goal.invariant-loop-branch
invariant-loop-branch g l =
    walked_branches l.extent (steps l.trail.items)
    (branches_by g.T.Walked.form (drop l.branch-index l.branches.items)) ≡ walked_branches l.extent
    (steps l.fn.trail.items) (branches_by g.T.Walked.form l.branches.items)
