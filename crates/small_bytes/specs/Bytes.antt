-- The bytes of a text, wherever they stand.
use Rattle.std.specs.Prelude.{ℕ, List}
use Rattle.small_bytes.specs.declared.bytes.Form.{Form}
use Rattle.small_bytes.specs.declared.bytes.Form.TheVariants.{Within, Apart}

abbrev pub seen : Form → List ℕ
seen (Within few) = few
seen (Apart items) = items.items
