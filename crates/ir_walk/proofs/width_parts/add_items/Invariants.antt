use Rattle.std.proofs.Common.{◌≡◌, ◌++◌, drop}
use Rattle.ir_core.specs.PartsBy.{items_by}
use Rattle.ir_walk.specs.Width.{item_widths}
use Rattle.ir_walk.proofs.width_parts.add_items.Given as goal

abbrev pub invariant-loop-item : goal.invariant-loop-item
invariant-loop-item g l =
    l.all.items ++ item_widths (items_by g.T.Measured.form (drop l.item-index l.items.items)) ≡ l.fn.all.items
    ++ item_widths (items_by g.T.Measured.form l.items.items)
