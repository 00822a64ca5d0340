use Rattle.std.proofs.Common.{◌≡◌, drop}
use Rattle.parser_tree.specs.PartsBy.{items_by}
use Rattle.ir_core.specs.Forms.{append_items}
use Rattle.ir_core.specs.Parts as part
use Rattle.lower_table.specs.Lowering.{passes, items}
use Rattle.lower_table.proofs.lists.lower_items.Given as goal

abbrev pub invariant-loop-item : goal.invariant-loop-item
invariant-loop-item g l =
    append_items (part.items l.all.items)
    (items (passes l.fn.passed) l.fn.depth (items_by g.T.Whole.node (drop l.item-index l.items.items)))
    ≡ items (passes l.fn.passed) l.fn.depth (items_by g.T.Whole.node l.items.items)
