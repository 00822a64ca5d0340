-- What the methods give that read an Array.
use Rattle.std.specs.Prelude.{ℕ, ℤ, pos, List, [], ◌∷◌, ◌++◌, length, nat_eq, get_or, nat_lt, Bool, if◌then◌else◌, Option, Some, None, Result, Ok, Err}
use Rattle.std.specs.List.{list_all}
use Rattle.rb_value.specs.declared.value.Value.{Value}
use Rattle.rb_value.specs.declared.value.Value.TheVariants.{Nil, True, False, Int, Sym, Obj}
use Rattle.rb_value.specs.declared.value.ObjId.{ObjId}
use Rattle.rb_value.specs.declared.kind.RangeContents.{RangeContents}
use Rattle.rb_value.specs.declared.kind.RangeEnds.{RangeEnds}
use Rattle.rb_value.specs.declared.kind.RangeEnds.TheVariants as ends
use Rattle.rb_value.specs.declared.core_class.CoreClass.TheVariants as class
use Rattle.def_core.specs.Store.{Store}
use Rattle.def_core.specs.Parts.{elements_at}
use Rattle.def_core.specs.declared.cause.Cause.{Cause}
use Rattle.def_core.specs.declared.cause.Cause.TheVariants.{TooFewItems, StackTooDeep}
use Rattle.def_calls.specs.Views.{kind_in}
use Rattle.def_calls.specs.Values.{element_at}
use Rattle.rb_store.specs.Held.{Held}
use Rattle.heap.specs.Reading.{range_in}
use Rattle.core_calls.specs.declared.flattening.Empty.TheVariants.{Counts}
use Rattle.core_calls.specs.Flat.{flattened}
use Rattle.rows_items.specs.Told.{and_then, each}
use Rattle.rows_items.specs.Checks.{refusal, integer_of, count_of, array_of}
use Rattle.rows_items.specs.Made.{given, made}
use Rattle.rows_items.specs.Zipped.{elements_beside, arrays_from, array_of_arrays}
use Rattle.rows_array.specs.Lists.{part, range_part, last_of, last_part, rotated}

abbrev pub elements : Store → ObjId → List Value
elements st id = elements_at st.objects id

-- `at`
abbrev pub at : Store → ObjId → Value → Result Value Cause
at st id index = and_then (integer_of st index) (λ i. Ok (element_at (elements st id) i))

-- the elements between the Integers that a Range has as ends; what is no such Range is no index either
abbrev pub between : Store → List Value → Value → Bool → RangeEnds → Result (Option (List Value)) Cause
between st vs place exclusive (ends.Integers first last) = Ok (range_part vs first last exclusive)
between st vs place exclusive (ends.Bytes first last) = Err (refusal st class.Integer place)

abbrev pub in_contents : Store → List Value → Value → Option RangeContents → Result (Option (List Value)) Cause
in_contents st vs place None = Err (refusal st class.Integer place)
in_contents st vs place (Some r) = between st vs place r.exclusive r.ends

abbrev pub in_range : Store → ObjId → Value → Result (Option (List Value)) Cause
in_range st id place = in_contents st (elements st id) place (range_in (kind_in st.objects place))

-- the elements from an index on, at most so many
abbrev pub from_index : Store → ObjId → Value → Value → Result (Option (List Value)) Cause
from_index st id index count =
    and_then (integer_of st index) (λ i. and_then (integer_of st count) (λ n. Ok (part (elements st id) i n)))

-- a new Array of them, or nil
abbrev pub array_or_nil : Held → Option (List Value) → Result (Value × Held) Cause
array_or_nil held None = given held Nil
array_or_nil held (Some vs) = made held vs

-- `[]` with one index: an Integer, or a Range
abbrev pub element_by : Held → ObjId → Value → Result (Value × Held) Cause
element_by held id Nil = and_then (in_range held.store id Nil) (array_or_nil held)
element_by held id True = and_then (in_range held.store id True) (array_or_nil held)
element_by held id False = and_then (in_range held.store id False) (array_or_nil held)
element_by held id (Int i) = given held (element_at (elements held.store id) i)
element_by held id (Sym s) = and_then (in_range held.store id (Sym s)) (array_or_nil held)
element_by held id (Obj o) = and_then (in_range held.store id (Obj o)) (array_or_nil held)

-- `[]`, and with an index and a count
abbrev pub element : Held → ObjId → List Value → Result (Value × Held) Cause
element held id args = if nat_lt 1 (length args)
    then and_then (from_index held.store id (get_or args 0 Nil) (get_or args 1 Nil)) (array_or_nil held)
    else element_by held id (get_or args 0 Nil)

-- `values_at`
abbrev pub values_at : Held → ObjId → List Value → Result (Value × Held) Cause
values_at held id args = and_then (each (at held.store id) args) (made held)

-- `last`, and with a count
abbrev pub last : Held → ObjId → List Value → Result (Value × Held) Cause
last held id [] = given held (last_of (elements held.store id))
last held id (v ∷ rest) = and_then (count_of held.store v) (λ n. made held (last_part (elements held.store id) n))

-- `+`
abbrev pub plus : Held → ObjId → Value → Result (Value × Held) Cause
plus held id other = and_then (array_of held.store other)
    (λ more. made held (elements held.store id ++ elements held.store more))

-- `rotate`: one element without a count
abbrev pub rotate_count : Store → List Value → Result ℤ Cause
rotate_count st [] = Ok (pos 1)
rotate_count st (v ∷ rest) = integer_of st v

abbrev pub rotate : Held → ObjId → List Value → Result (Value × Held) Cause
rotate held id args =
    and_then (rotate_count held.store args) (λ n. made held (rotated (elements held.store id) n))

-- `flatten`: the elements of nested Arrays, down to 10,000 levels
abbrev pub made_or_too_deep : Held → Option (List Value) → Result (Value × Held) Cause
made_or_too_deep held None = Err StackTooDeep
made_or_too_deep held (Some vs) = made held vs

abbrev pub flatten : Held → ObjId → Result (Value × Held) Cause
flatten held id = made_or_too_deep held (flattened Counts held.store (elements held.store id))

-- `transpose`: the elements are Arrays of the same length, and each line has the elements at one place

abbrev pub are_as_long : Store → ℕ → List ObjId → Bool
are_as_long st n ids = list_all (λ id. nat_eq (length (elements st id)) n) ids

abbrev pub width_of : Store → List ObjId → Result ℕ Cause
width_of st [] = Ok 0
width_of st (id ∷ ids) = if are_as_long st (length (elements st id)) (id ∷ ids) then Ok (length (elements st id))
    else Err TooFewItems

abbrev pub columns : List ObjId → Store → ℕ → List Value
columns lines st place = elements_beside st lines place

abbrev pub transpose : Held → ObjId → Result (Value × Held) Cause
transpose held id = and_then (each (array_of held.store) (elements held.store id)) (λ lines.
    and_then (width_of held.store lines) (λ width. array_of_arrays (arrays_from (columns lines) width held 0)))
