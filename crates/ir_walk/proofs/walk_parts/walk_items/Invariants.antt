use Rattle.std.proofs.Common.{◌≡◌, drop}
use Rattle.ir_core.specs.PartsBy.{items_by}
use Rattle.ir_walk.specs.Steps.{steps}
use Rattle.ir_walk.specs.Walk.{walked_items}
use Rattle.ir_walk.proofs.walk_parts.walk_items.Given as goal

abbrev pub invariant-loop-item : goal.invariant-loop-item
invariant-loop-item g l =
    walked_items l.extent (steps l.trail.items) (items_by g.T.Walked.form (drop l.item-index l.items.items)) ≡ walked_items
    l.extent (steps l.fn.trail.items) (items_by g.T.Walked.form l.items.items)
