use Rattle.std.proofs.Common.{◌≡◌, map, drop}
use Rattle.ir_core.specs.CoreForm as form
use Rattle.ir_core.specs.Parts.{items}
use Rattle.ir_core.specs.Forms.{append_items}
use Rattle.ir_builder.specs.Forms.{plain_items}
use Rattle.ir_builder.proofs.leaf.word_array.Given as goal

abbrev pub invariant-loop-word : goal.invariant-loop-word
invariant-loop-word l =
    append_items (items l.items.items) (plain_items (map form.str (drop l.word-index l.words)))
    ≡ plain_items (map form.str l.words)
