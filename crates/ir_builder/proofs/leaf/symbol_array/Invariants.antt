use Rattle.std.proofs.Common.{◌≡◌, map, drop}
use Rattle.ir_core.specs.CoreForm as form
use Rattle.ir_core.specs.Parts.{items}
use Rattle.ir_core.specs.Forms.{append_items}
use Rattle.ir_builder.specs.Forms.{plain_items}
use Rattle.ir_builder.proofs.leaf.symbol_array.Given as goal

abbrev pub invariant-loop-name : goal.invariant-loop-name
invariant-loop-name l =
    append_items (items l.items.items) (plain_items (map form.sym (drop l.name-index l.names)))
    ≡ plain_items (map form.sym l.names)
