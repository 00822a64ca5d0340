use Rattle.std.proofs.Common.{◌≡◌, drop}
use Rattle.ir_core.specs.View.{term_view}
use Rattle.ir_core.specs.PartsBy.{items_by}
use Rattle.ir_walk.specs.Width.{has_splat}
use Rattle.ir_walk.proofs.splat.has_splat.Given as goal

abbrev pub invariant-loop-item : goal.invariant-loop-item
invariant-loop-item l = has_splat (items_by term_view l.items) ≡ has_splat
    (items_by term_view (drop l.item-index l.items))
