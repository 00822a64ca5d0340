use Rattle.std.proofs.Common.{◌≡◌, drop}
use Rattle.ir_core.specs.PartsBy.{items_by}
use Rattle.ir_walk.specs.Width.{has_splat}
use Rattle.gen_forms.proofs.calls.has_splat.Given as goal

abbrev pub invariant-loop-item : goal.invariant-loop-item
invariant-loop-item g l =
    has_splat (items_by g.T.Emits.form (drop l.item-index l.items.items)) ≡ has_splat
    (items_by g.T.Emits.form l.items.items)
