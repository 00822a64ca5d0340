use Rattle.std.proofs.Common.{◌≡◌, map, drop}
use Rattle.ir_core.specs.View.{local_of}
use Rattle.ir_core.specs.Parts.{items}
use Rattle.ir_core.specs.Forms.{append_items}
use Rattle.ir_builder.specs.Forms.{map_item, passed_items}
use Rattle.ir_builder.proofs.calls.passed_items.Given as goal

abbrev pub invariant-loop-item : goal.invariant-loop-item
invariant-loop-item l =
    append_items (items l.items.items) (passed_items (map (map_item local_of) (drop l.item-index l.passed)))
    ≡ passed_items (map (map_item local_of) l.passed)
