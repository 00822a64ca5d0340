-- Items with the elements of Arrays at the same places.
use Rattle.std.specs.Prelude.{ℕ, zero, suc, List, [], ◌∷◌, ◌++◌, map, length, get_or, Result}
use Rattle.rb_value.specs.declared.value.Value.{Value}
use Rattle.rb_value.specs.declared.value.Value.TheVariants.{Nil}
use Rattle.rb_value.specs.declared.value.ObjId.{ObjId}
use Rattle.def_core.specs.declared.cause.Cause.{Cause}
use Rattle.def_core.specs.Store.{Store}
use Rattle.def_core.specs.Parts.{elements_at}
use Rattle.rb_store.specs.Held.{Held}
use Rattle.heap.specs.Made.{array_given, with_array}
use Rattle.rows_items.specs.Told.{and_then, each}
use Rattle.rows_items.specs.Checks.{array_of}
use Rattle.rows_items.specs.Made.{made}

-- the element at a place of each of the Arrays; nil where one has none there
abbrev pub elements_beside : Store → List ObjId → ℕ → List Value
elements_beside st ids place = map (λ id. get_or (elements_at st.objects id) place Nil) ids

abbrev pub row_of : Store → Value → List ObjId → ℕ → List Value
row_of st v ids place = v ∷ elements_beside st ids place

-- so many new Arrays, each of what its place gives of the store then
abbrev pub arrays_from : (Store → ℕ → List Value) → ℕ → Held → ℕ → List Value × Held
arrays_from row zero held place = ([], held)
arrays_from row (suc n) held place =
    let rest = arrays_from row n (with_array held (row held.store place)) (suc place) in
    (array_given held.store (row held.store place) ∷ rest.0, rest.1)

-- others before them
abbrev pub after_arrays : List Value → List Value × Held → List Value × Held
after_arrays vs made = (vs ++ made.0, made.1)

-- a new Array of them
abbrev pub array_of_arrays : List Value × Held → Result (Value × Held) Cause
array_of_arrays rows = made rows.1 rows.0

-- `zip`: a new Array for each item
abbrev pub rows_beside : List Value → List ObjId → Store → ℕ → List Value
rows_beside items ids st place = row_of st (get_or items place Nil) ids place

abbrev pub zipped : Held → List Value → List Value → Result (Value × Held) Cause
zipped held items args = and_then (each (array_of held.store) args)
    (λ ids. array_of_arrays (arrays_from (rows_beside items ids) (length items) held 0))
