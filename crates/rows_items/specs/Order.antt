-- The order of values: of Integers by size, of Strings by their bytes, of Arrays by the first elements that differ.
use Rattle.std.specs.Prelude.{ℕ, zero, suc, ℤ, List, [], ◌∷◌, Bool, if◌then◌else◌, Option, Some, None, Result, Ok, Err}
use Rattle.std.specs.declared.cmp.Ordering.{Ordering}
use Rattle.std.specs.declared.cmp.Ordering.TheVariants.{Less, Equal, Greater}
use Rattle.std.specs.Ordering.{nat_cmp, int_cmp}
use Rattle.std.specs.Cmp.Lexicographic.{slice_cmp}
use Rattle.rb_value.specs.declared.value.Value.{Value}
use Rattle.rb_value.specs.declared.value.ObjId.{ObjId}
use Rattle.rb_value.specs.contracts.value.ValuePartialEq.TheImpl as derived
use Rattle.def_core.specs.declared.cause.Cause.{Cause}
use Rattle.def_core.specs.declared.cause.Cause.TheVariants.{ComparisonFailed, StackTooDeep}
use Rattle.def_core.specs.Store.{Store}
use Rattle.def_core.specs.Parts.{elements_at, text_at}
use Rattle.def_calls.specs.Views.{an_array, a_string, integer_in}
use Rattle.rows_items.specs.declared.order.Comparison.{Comparison}
use Rattle.rows_items.specs.declared.order.Comparison.TheVariants.{Ordered, Within, Unordered}

-- whether two values are the same one
abbrev pub same_value : Value → Value → Bool
same_value = derived.ghosts.eq

-- What two values tell without the elements of Arrays.

abbrev pub by_arrays : Option ObjId → Option ObjId → Comparison
by_arrays (Some a) (Some b) = Within a b
by_arrays (Some a) None = Unordered
by_arrays None (Some b) = Unordered
by_arrays None None = Unordered

abbrev pub by_texts : Store → Option ObjId → Option ObjId → Comparison → Comparison
by_texts st (Some a) (Some b) other = Ordered (slice_cmp nat_cmp (text_at st.objects a) (text_at st.objects b))
by_texts st (Some a) None other = other
by_texts st None (Some b) other = other
by_texts st None None other = other

abbrev pub by_numbers : Option ℤ → Option ℤ → Comparison → Comparison
by_numbers (Some m) (Some n) other = Ordered (int_cmp m n)
by_numbers (Some m) None other = other
by_numbers None (Some n) other = other
by_numbers None None other = other

abbrev pub unequal_compared : Store → Value → Value → Comparison
unequal_compared st v w = by_texts st (a_string st.objects v) (a_string st.objects w)
    (by_arrays (an_array st.objects v) (an_array st.objects w))

-- a value is equal to itself
abbrev pub compared : Store → Value → Value → Comparison
compared st v w = by_numbers (integer_in v) (integer_in w)
    (if same_value v w then Ordered Equal else unequal_compared st v w)

-- Lists: the first elements that differ tell; where there are none the shorter list is the lesser.

abbrev pub then_rest : Result Ordering Cause → Result Ordering Cause → Result Ordering Cause
then_rest (Ok Less) rest = Ok Less
then_rest (Ok Equal) rest = rest
then_rest (Ok Greater) rest = Ok Greater
then_rest (Err cause) rest = Err cause

abbrev pub lists_order : (Value → Value → Result Ordering Cause) → List Value → List Value → Result Ordering Cause
lists_order order [] [] = Ok Equal
lists_order order [] (w ∷ ws) = Ok Less
lists_order order (v ∷ vs) [] = Ok Greater
lists_order order (v ∷ vs) (w ∷ ws) = then_rest (order v w) (lists_order order vs ws)

-- the order, where nested Arrays have one of their own
abbrev pub order_by : (ObjId → ObjId → Result Ordering Cause) → Comparison → Result Ordering Cause
order_by nested (Ordered o) = Ok o
order_by nested (Within a b) = nested a b
order_by nested Unordered = Err ComparisonFailed

abbrev pub arrays_order : (Value → Value → Result Ordering Cause) → Store → ObjId → ObjId → Result Ordering Cause
arrays_order order st a b = lists_order order (elements_at st.objects a) (elements_at st.objects b)

-- the order with so many levels of Arrays
unfoldable pub order_within : ℕ → Store → Value → Value → Result Ordering Cause
order_within zero st v w = order_by (λ a b. Err StackTooDeep) (compared st v w)
order_within (suc n) st v w = order_by (arrays_order (order_within n st) st) (compared st v w)

-- how many levels there may be
unfoldable pub levels : ℕ
levels = 10000

abbrev pub order_of : Store → Value → Value → Result Ordering Cause
order_of st v w = order_within levels st v w
