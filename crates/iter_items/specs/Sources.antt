-- The items of an Array, a Hash or a Range, one after another.
use Rattle.std.specs.Prelude.{ℕ, ◌-◌, ◌^◌, min, ℤ, pos, negsuc, ◌-ℤ◌, int_lt, int_le, unsigned_abs, List, [], ◌∷◌, length, slice_get, nat_eq, nat_lt, Bool, true, false, if◌then◌else◌, Option, Some, None}
use Rattle.std.specs.Int.{w64, int_wrapping_add, int_wrapping_sub}
use Rattle.rb_value.specs.declared.value.Value.{Value}
use Rattle.rb_value.specs.declared.value.Value.TheVariants.{Int, Obj}
use Rattle.rb_value.specs.declared.value.ObjId.{ObjId}
use Rattle.rb_value.specs.declared.hash.HashItem.{HashItem}
use Rattle.rb_value.specs.declared.kind.Kind.TheVariants as kind
use Rattle.rb_value.specs.declared.kind.RangeContents.{RangeContents}
use Rattle.rb_value.specs.declared.kind.RangeEnds.{RangeEnds}
use Rattle.rb_value.specs.declared.kind.RangeEnds.TheVariants as ends
use Rattle.rb_value.specs.declared.core_class.CoreClass.TheVariants as class
use Rattle.def_core.specs.Store.{Store, core, next_number}
use Rattle.def_core.specs.Parts.{elements_at}
use Rattle.def_calls.specs.Views.{an_array, a_hash, kind_in}
use Rattle.rb_store.specs.Held.{Held, one_more}
use Rattle.heap.specs.Reading.{range_in}
pub use Rattle.iter_comparing.specs.Hashes.{items, pairs}
pub use Rattle.iter_comparing.specs.Repeating.{repeated}
use Rattle.heap.specs.Made.{array_given, with_array, with_new}
use Rattle.iter_items.specs.declared.source.Numbers.{Numbers}
use Rattle.iter_items.specs.declared.source.Source.{Source}
use Rattle.iter_items.specs.declared.source.Source.TheVariants as source

-- a value, and the heap that is left
pub record Made : Type 0 where
  pub value : Value
  pub held : Held

-- an item, where there is one, with what is left of the items and the heap
pub record Passed (S : Type 0) : Type 0 where
  pub item : Option Value
  pub source : S
  pub held : Held

abbrev pub passes : {S : Type 0} → S → Made → Passed S
passes s m = record { item = Some m.value; source = s; held = m.held }

abbrev pub no_more : {S : Type 0} → Held → S → Passed S
no_more held s = record { item = None; source = s; held = held }

abbrev pub gives : {S : Type 0} → Held → S → Option Value → Passed S
gives held s v = record { item = v; source = s; held = held }

-- Numbers stand for themselves, or for new Strings of one byte.

abbrev pub byte_of : ℤ → ℕ
byte_of (pos n) = if nat_lt n 256 then n else 0
byte_of (negsuc n) = 0

abbrev pub number_item : Held → Bool → ℤ → Made
number_item held true z = record {
  value = Obj (next_number held.store);
  held = with_new held (core class.String) (kind.String (byte_of z ∷ []));
}
number_item held false z = record { value = Int z; held = held }

abbrev pub without_first : Numbers → Numbers
without_first n = record n { first = int_wrapping_add w64 n.first (pos 1); left = n.left - 1 }

abbrev pub without_last : Numbers → Numbers
without_last n = record n { last = int_wrapping_sub w64 n.last (pos 1); left = n.left - 1 }

abbrev pub next_number_of : Held → Numbers → Passed Numbers
next_number_of held n = if nat_eq n.left 0 then no_more held n
    else passes (without_first n) (number_item held n.as_bytes n.first)

abbrev pub previous_number_of : Held → Numbers → Passed Numbers
previous_number_of held n = if nat_eq n.left 0 then no_more held n
    else passes (without_last n) (number_item held n.as_bytes n.last)

-- A pair is a new Array of what is shown as its key and its value.

abbrev pub pair_item : Held → HashItem → Made
pair_item held p = record {
  value = array_given held.store (p.shown ∷ p.value ∷ []);
  held = with_array held (p.shown ∷ p.value ∷ []);
}

abbrev pub pair_passed : Held → Source → Option HashItem → Passed Source
pair_passed held s None = no_more held s
pair_passed held s (Some p) = passes s (pair_item held p)

abbrev pub numbers_passed : Passed Numbers → Passed Source
numbers_passed p = record { item = p.item; source = source.Numbers p.source; held = p.held }

-- the next item; the length of an Array is read anew each time
abbrev pub next : Held → Source → Passed Source
next held (source.Elements a n) =
    gives held (source.Elements a (one_more n)) (slice_get (elements_at held.store.objects a) n)
next held (source.Pairs ps n) = pair_passed held (source.Pairs ps (one_more n)) (slice_get ps n)
next held (source.Numbers n) = numbers_passed (next_number_of held n)

-- the item before

abbrev pub place_before : ℕ → ℕ → Option ℕ
place_before n len = if nat_eq (min n len) 0 then None else Some (min n len - 1)

abbrev pub element_before : Held → ObjId → ℕ → Option ℕ → Passed Source
element_before held a n None = no_more held (source.Elements a n)
element_before held a n (Some k) =
    gives held (source.Elements a k) (slice_get (elements_at held.store.objects a) k)

abbrev pub pair_before : Held → List HashItem → ℕ → Option ℕ → Passed Source
pair_before held ps n None = no_more held (source.Pairs ps n)
pair_before held ps n (Some k) = pair_passed held (source.Pairs ps k) (slice_get ps k)

abbrev pub previous : Held → Source → Passed Source
previous held (source.Elements a n) =
    element_before held a n (place_before n (length (elements_at held.store.objects a)))
previous held (source.Pairs ps n) = pair_before held ps n (place_before n (length ps))
previous held (source.Numbers n) = numbers_passed (previous_number_of held n)

-- how many items are left
abbrev pub left : Store → Source → ℕ
left st (source.Elements a n) = length (elements_at st.objects a) - n
left st (source.Pairs ps n) = length ps - n
left st (source.Numbers n) = n.left

-- the pair of a Hash that was passed last

abbrev pub pair_behind : List HashItem → ℕ → Option HashItem
pair_behind ps n = if nat_eq n 0 then None else slice_get ps (n - 1)

abbrev pub passed_pair : Source → Option HashItem
passed_pair (source.Elements a n) = None
passed_pair (source.Pairs ps n) = pair_behind ps n
passed_pair (source.Numbers n) = None

abbrev pub is_pairs : Source → Bool
is_pairs (source.Elements a n) = false
is_pairs (source.Pairs ps n) = true
is_pairs (source.Numbers n) = false

-- The items of a value.

abbrev pub first_end : RangeEnds → ℤ
first_end (ends.Integers a b) = a
first_end (ends.Bytes a b) = pos a

abbrev pub last_end : RangeEnds → ℤ
last_end (ends.Integers a b) = b
last_end (ends.Bytes a b) = pos b

abbrev pub are_bytes : RangeEnds → Bool
are_bytes (ends.Integers a b) = false
are_bytes (ends.Bytes a b) = true

-- how many numbers there are from one to another without the last, and with it
abbrev pub without_end : ℤ → ℤ → ℕ
without_end a b = if int_lt b a then 0 else unsigned_abs (a -ℤ b)

abbrev pub with_end : ℤ → ℤ → ℕ
with_end a b = if int_le a b then one_more (without_end a b) else without_end a b

abbrev pub numbers_between : ℤ → ℤ → Bool → Bool → Numbers
numbers_between a b bytes true =
    record { first = a; last = int_wrapping_sub w64 b (pos 1); left = without_end a b; as_bytes = bytes }
numbers_between a b bytes false = record { first = a; last = b; left = with_end a b; as_bytes = bytes }

abbrev pub numbers_of : RangeContents → Numbers
numbers_of r = numbers_between (first_end r.ends) (last_end r.ends) (are_bytes r.ends) r.exclusive

-- they begin at the first item, or behind the last
abbrev pub place_for : Bool → ℕ
place_for true = 2 ^ 64 - 1
place_for false = 0

abbrev pub of_range : Option RangeContents → Option Source
of_range None = None
of_range (Some r) = Some (source.Numbers (numbers_of r))

abbrev pub of_hash : Store → Value → Bool → Option ObjId → Option Source
of_hash st v backwards (Some h) = Some (source.Pairs (items (pairs st h)) (place_for backwards))
of_hash st v backwards None = of_range (range_in (kind_in st.objects v))

abbrev pub of_array : Store → Value → Bool → Option ObjId → Option Source
of_array st v backwards (Some a) = Some (source.Elements a (place_for backwards))
of_array st v backwards None = of_hash st v backwards (a_hash st.objects v)

abbrev pub source_of : Store → Value → Bool → Option Source
source_of st v backwards = of_array st v backwards (an_array st.objects v)
