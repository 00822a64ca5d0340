-- The pairs of a table, wherever they stand.
use Rattle.std.specs.Prelude.{Bool, List}
use Rattle.std.specs.List.{IsDistinct}
use Rattle.std.specs.Map.{keys_of}
use Rattle.std.specs.Borrow.{Bor}
use Rattle.pair_table.specs.declared.table.Form.{Form}
use Rattle.pair_table.specs.declared.table.Form.TheVariants.{Few, Many}

-- a pair by what its references show
abbrev pub shown_pair : {K V : Type 0} → Bor K × Bor V → K × V
shown_pair p = (p.0.now, p.1.now)

module _ {K V : Type 0} where
  -- No key is there twice.
  abbrev pub ApartBy : (K → K → Bool) → List (K × V) → Type 0
  ApartBy eq pairs = IsDistinct eq (keys_of pairs)

  abbrev pub pairs_in : Form K V → List (K × V)
  pairs_in (Few pairs) = pairs.items
  pairs_in (Many table) = table.value.entries
