-- What each method of items gives that calls no others.
use Rattle.std.specs.Prelude.{◌≡◌, ℕ, ℤ, pos, int_lt, int_le, List, drop, get_or, slice_get, length, Bool, true, false, ◌&&◌, if◌then◌else◌, Option, Some, None, is_some, Result, Ok, Err}
use Rattle.std.specs.Int.{w64, int_wrapping_sub}
use Rattle.rb_value.specs.declared.value.Value.{Value}
use Rattle.rb_value.specs.declared.value.Value.TheVariants.{Nil, Int}
use Rattle.rb_value.specs.declared.kind.RangeContents.{RangeContents}
use Rattle.rb_value.specs.declared.kind.RangeEnds.{RangeEnds}
use Rattle.rb_value.specs.declared.kind.RangeEnds.TheVariants as ends
use Rattle.rb_value.specs.declared.core_class.CoreClass.TheVariants as class
use Rattle.def_core.specs.declared.cause.Cause.{Cause}
use Rattle.def_core.specs.Store.{Store, core, same_object}
use Rattle.def_core.specs.Classes.{plain_class_of}
use Rattle.def_core.specs.Bind.{elements_in}
use Rattle.def_calls.specs.Views.{an_array, kind_in}
use Rattle.rb_store.specs.Held.{Held}
use Rattle.heap.specs.Operands.{own}
use Rattle.heap.specs.Reading.{range_in}
use Rattle.core_calls.specs.Checks.{miscounted}
use Rattle.rows_items.specs.declared.rows.ItemRow.{ItemRow}
use Rattle.rows_items.specs.declared.rows.ItemRow.TheVariants as row
use Rattle.rows_items.specs.declared.sorting.Extreme.{Extreme}
use Rattle.rows_items.specs.declared.sorting.Extreme.TheVariants.{Least, Greatest}
use Rattle.rows_items.specs.Checks.{count_of}
use Rattle.rows_items.specs.Items.{Items, first_items, items_of}
use Rattle.rows_items.specs.Keyed.{unique, tallied}
use Rattle.rows_items.specs.Outcome.{Outcome, gives, refuses, gives_array, outcome_of}
use Rattle.rows_items.specs.Sorting.{Sorts, extreme_place}
use Rattle.rows_items.specs.Zipped.{zipped}

-- at least and at most how many arguments each takes
abbrev pub arity : ItemRow → ℕ × Option ℕ
arity row.ToArray = (0, Some 0)
arity row.Entries = (0, Some 0)
arity row.First = (0, Some 1)
arity row.Take = (1, Some 1)
arity row.Drop = (1, Some 1)
arity row.Min = (0, Some 0)
arity row.Max = (0, Some 0)
arity row.Sort = (0, Some 0)
arity row.Uniq = (0, Some 0)
arity row.Tally = (0, Some 0)
arity row.Zip = (1, None)

-- what is made of the items; what has none is refused
abbrev pub with_items : (Items → Outcome) → Held → Result Items Cause → Outcome
with_items next held (Ok items) = next items
with_items next held (Err c) = refuses held c

-- a new Array of them
abbrev pub as_array : Items → Outcome
as_array items = gives_array items.1 items.0

abbrev pub entries : Held → Value → Outcome
entries held recv = with_items as_array held (items_of held recv)

-- an Array of no class below Array is given itself
abbrev pub is_plain_array : Store → Value → Bool
is_plain_array st v = is_some (an_array st.objects v) && same_object (plain_class_of st.objects (own st v)) (core class.Array)

abbrev pub to_array : Held → Value → Outcome
to_array held recv = if is_plain_array held.store recv then gives held recv else entries held recv

-- the first items, so many

abbrev pub take_counted : Held → Value → Result ℕ Cause → Outcome
take_counted held recv (Ok n) = with_items as_array held (first_items held recv n)
take_counted held recv (Err c) = refuses held c

abbrev pub take : Held → Value → Value → Outcome
take held recv wanted = take_counted held recv (count_of held.store wanted)

abbrev pub first_in : Items → Outcome
first_in items = gives items.1 (get_or items.0 0 Nil)

abbrev pub first_item : Held → Value → Option (List Value) → Outcome
first_item held recv (Some vs) = gives held (get_or vs 0 Nil)
first_item held recv None = with_items first_in held (first_items held recv 1)

abbrev pub first_by : Held → Value → Option Value → Outcome
first_by held recv None = first_item held recv (elements_in held.store.objects recv)
first_by held recv (Some wanted) = take held recv wanted

abbrev pub first : Held → Value → List Value → Outcome
first held recv args = first_by held recv (slice_get args 0)

-- those behind the first, so many

abbrev pub behind : ℕ → Items → Outcome
behind n items = gives_array items.1 (drop n items.0)

abbrev pub drop_counted : Held → Value → Result ℕ Cause → Outcome
drop_counted held recv (Ok n) = with_items (behind n) held (items_of held recv)
drop_counted held recv (Err c) = refuses held c

abbrev pub drop_first : Held → Value → Value → Outcome
drop_first held recv wanted = drop_counted held recv (count_of held.store wanted)

-- The least or the greatest; the ends of a Range of Integers need no search.

abbrev pub item_at : List Value → Option ℕ → Value
item_at vs None = Nil
item_at vs (Some n) = get_or vs n Nil

abbrev pub item_told : List Value → Result (Option ℕ) Cause → Result Value Cause
item_told vs (Ok place) = Ok (item_at vs place)
item_told vs (Err c) = Err c

abbrev pub extreme_of : Store → List Value → Extreme → Result Value Cause
extreme_of st vs e = item_told vs (extreme_place st vs e)

abbrev pub extreme_in : Extreme → Items → Outcome
extreme_in e items = record { told = extreme_of items.1.store items.0 e; held = items.1 }

abbrev pub numbers_in : RangeEnds → Bool → Option (ℤ × ℤ)
numbers_in (ends.Integers a b) true = if int_lt a b then Some (a, int_wrapping_sub w64 b (pos 1)) else None
numbers_in (ends.Integers a b) false = if int_le a b then Some (a, b) else None
numbers_in (ends.Bytes a b) exclusive = None

abbrev pub numbers_of_range : Option RangeContents → Option (ℤ × ℤ)
numbers_of_range None = None
numbers_of_range (Some r) = numbers_in r.ends r.exclusive

abbrev pub end_of : Extreme → ℤ × ℤ → Value
end_of Least p = Int p.0
end_of Greatest p = Int p.1

abbrev pub extreme_by_ends : Extreme → Held → Value → Option (ℤ × ℤ) → Outcome
extreme_by_ends e held recv (Some p) = gives held (end_of e p)
extreme_by_ends e held recv None = with_items (extreme_in e) held (items_of held recv)

abbrev pub extreme_by : Extreme → Held → Value → Option (List Value) → Outcome
extreme_by e held recv (Some vs) = extreme_in e (vs, held)
extreme_by e held recv None = extreme_by_ends e held recv (numbers_of_range (range_in (kind_in held.store.objects recv)))

abbrev pub least_or_greatest : Extreme → Held → Value → Outcome
least_or_greatest e held recv = extreme_by e held recv (elements_in held.store.objects recv)

-- The items in order, which sort says.

abbrev pub array_or : Held → Result (List Value) Cause → Outcome
array_or held (Ok us) = gives_array held us
array_or held (Err c) = refuses held c

pub record SortsTo (items : Items) (o : Outcome) : Type 0 where
  pub told : Result (List Value) Cause
  pub sorts : Sorts items.1.store items.0 told
  pub is : o ≡ array_or items.1 told

abbrev pub SortsItems : Held → Result Items Cause → Outcome → Type 0
SortsItems held (Ok items) o = SortsTo items o
SortsItems held (Err c) o = o ≡ refuses held c

-- what is made of all items

abbrev pub uniq : Items → Outcome
uniq items = array_or items.1 (unique items.1.store items.0)

abbrev pub tally : Items → Outcome
tally items = tallied items.1 items.0

abbrev pub zip : List Value → Items → Outcome
zip args items = outcome_of items.1 (zipped items.1 items.0 args)

-- what each comes to, where it takes so many arguments
abbrev pub Answers : ItemRow → Held → Value → List Value → Outcome → Type 0
Answers row.ToArray held recv args o = to_array held recv ≡ o
Answers row.Entries held recv args o = entries held recv ≡ o
Answers row.First held recv args o = first held recv args ≡ o
Answers row.Take held recv args o = take held recv (get_or args 0 Nil) ≡ o
Answers row.Drop held recv args o = drop_first held recv (get_or args 0 Nil) ≡ o
Answers row.Min held recv args o = least_or_greatest Least held recv ≡ o
Answers row.Max held recv args o = least_or_greatest Greatest held recv ≡ o
Answers row.Sort held recv args o = SortsItems held (items_of held recv) o
Answers row.Uniq held recv args o = with_items uniq held (items_of held recv) ≡ o
Answers row.Tally held recv args o = with_items tally held (items_of held recv) ≡ o
Answers row.Zip held recv args o = with_items (zip args) held (items_of held recv) ≡ o

abbrev pub CallsBy : ItemRow → Held → Value → List Value → Option Cause → Outcome → Type 0
CallsBy r held recv args (Some c) o = o ≡ refuses held c
CallsBy r held recv args None o = Answers r held recv args o

abbrev pub Calls : ItemRow → Held → Value → List Value → Outcome → Type 0
Calls r held recv args o = CallsBy r held recv args (miscounted (length args) (arity r).0 (arity r).1) o
