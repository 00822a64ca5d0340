use Rattle.std.proofs.Common.{◌≡◌, drop}
use Rattle.parser_tree.specs.PartsBy.{items_by}
use Rattle.ir_core.specs.Forms.{append}
use Rattle.ir_core.specs.Parts.{cores}
use Rattle.lower_table.specs.Lowering.{passes, keeps}
use Rattle.lower_table.proofs.places.keep_items.Given as goal

abbrev pub invariant-loop-item : goal.invariant-loop-item
invariant-loop-item g l =
    append (cores l.all.items)
    (keeps (passes l.fn.passed) l.fn.depth l.number (items_by g.T.Whole.node (drop l.item-index l.items)))
    ≡ keeps (passes l.fn.passed) l.fn.depth l.fn.first (items_by g.T.Whole.node l.items)
