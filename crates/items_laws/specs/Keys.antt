-- What comes of items by the order of their answers, or in two parts.
use Rattle.std.specs.Prelude.{◌≡◌, List, Ok}
use Rattle.rb_value.specs.declared.value.Value.{Value}
use Rattle.rb_store.specs.Held.{Held}
use Rattle.heap.specs.Made.{array_given, with_array}
use Rattle.rows_items.specs.declared.sorting.Extreme.{Extreme}
use Rattle.iter_items.specs.Driving.{parts, with_parts}
use Rattle.iter_items.specs.Keyed.{extreme_item, SortsItems, GivesArray}

-- the item whose key is the least or the greatest, the first of such
pub record IsExtreme (e : Extreme) (held : Held) (items keys : List Value) (v : Value) (after : Held) : Type 0 where
  pub item : extreme_item held.store items keys e ≡ Ok v
  pub left : after ≡ held

-- a new Array of the items in the order of their keys
abbrev pub IsSortedBy : Held → List Value → List Value → Value → Held → Type 0
IsSortedBy held items keys v after = GivesArray held (SortsItems held.store items keys) v after

-- a new Array of two new Arrays
pub record ArePartsOf (held : Held) (vs us : List Value) (v : Value) (after : Held) : Type 0 where
  pub value : v ≡ array_given (with_parts held vs us).store (parts held vs us)
  pub left : after ≡ with_array (with_parts held vs us) (parts held vs us)
