-- The items of Arrays, Hashes and Ranges, at most so many.
use Rattle.std.specs.Prelude.{ℕ, zero, suc, ◌+◌, ◌-◌, ◌^◌, min, ℤ, pos, ◌-ℤ◌, int_lt, unsigned_abs, List, [], ◌∷◌, ◌++◌, take, length, slice_get, Bool, if◌then◌else◌, Option, Some, None, Result, Ok, Err}
use Rattle.std.specs.Int.{w64, int_wrapping_add}
use Rattle.rb_value.specs.declared.value.Value.{Value}
use Rattle.rb_value.specs.declared.value.Value.TheVariants.{Int, Obj}
use Rattle.rb_value.specs.declared.value.ObjId.{ObjId}
use Rattle.rb_value.specs.declared.hash.HashItem.{HashItem}
use Rattle.rb_value.specs.declared.key.Key.{Key}
use Rattle.rb_value.specs.declared.kind.Kind.TheVariants as kind
use Rattle.rb_value.specs.declared.kind.RangeContents.{RangeContents}
use Rattle.rb_value.specs.declared.kind.RangeEnds.{RangeEnds}
use Rattle.rb_value.specs.declared.kind.RangeEnds.TheVariants as ends
use Rattle.rb_value.specs.declared.core_class.CoreClass.TheVariants as class
use Rattle.def_core.specs.declared.cause.Cause.{Cause}
use Rattle.def_core.specs.Store.{Store, core, next_number}
use Rattle.def_core.specs.Bind.{elements_in}
use Rattle.def_core.specs.Parts.{hash_at}
use Rattle.def_calls.specs.Views.{a_hash, kind_in}
use Rattle.rb_store.specs.Held.{Held, one_more}
use Rattle.heap.specs.Reading.{range_in}
use Rattle.heap.specs.Made.{with_new}
use Rattle.rows_items.specs.Checks.{refusal}
use Rattle.rows_items.specs.Zipped.{arrays_from}

-- Values, some of which are new objects, and the heap with them.

abbrev pub Items : Type 0
Items = List Value × Held

abbrev pub items_after : List Value → Items → Items
items_after vs items = (vs ++ items.0, items.1)

-- Pairs of a Hash: a new Array of what is shown as the key and the value.

abbrev pub parts_of : Option (Key × HashItem) → List Value
parts_of None = []
parts_of (Some p) = p.1.shown ∷ p.1.value ∷ []

abbrev pub pair_parts : ObjId → Store → ℕ → List Value
pair_parts id st place = parts_of (slice_get (hash_at st.objects id).pairs place)

abbrev pub pair_items : Held → ObjId → ℕ → Items
pair_items held id limit =
    arrays_from (pair_parts id) (min limit (length (hash_at held.store.objects id).pairs)) held 0

-- Ranges: Integers from one to another, or new Strings of one byte.

-- how many numbers there are; the greatest count stands for one more
abbrev pub span : ℤ → ℤ → Bool → ℕ
span a b exclusive = if int_lt b a then 0 else (if exclusive then unsigned_abs (a -ℤ b) else one_more (unsigned_abs (a -ℤ b)))

abbrev pub numbers_from : ℤ → ℕ → List Value
numbers_from z zero = []
numbers_from z (suc n) = Int z ∷ numbers_from (int_wrapping_add w64 z (pos 1)) n

abbrev pub next_byte : ℕ → ℕ
next_byte b = min (b + 1) (2 ^ 8 - 1)

abbrev pub with_letter : Held → ℕ → Held
with_letter held b = with_new held (core class.String) (kind.String (b ∷ []))

abbrev pub letters_from : ℕ → ℕ → Held → Items
letters_from b zero held = ([], held)
letters_from b (suc n) held = items_after (Obj (next_number held.store) ∷ []) (letters_from (next_byte b) n (with_letter held b))

abbrev pub range_items : Held → RangeEnds → Bool → ℕ → Items
range_items held (ends.Integers a b) exclusive limit = (numbers_from a (min limit (span a b exclusive)), held)
range_items held (ends.Bytes a b) exclusive limit =
    letters_from a (min limit (span (pos a) (pos b) exclusive)) held

-- any other value is refused

abbrev pub of_hash : Held → Value → ℕ → Option ObjId → Result Items Cause
of_hash held v limit (Some id) = Ok (pair_items held id limit)
of_hash held v limit None = Err (refusal held.store class.Array v)

abbrev pub of_range : Held → Value → ℕ → Option RangeContents → Result Items Cause
of_range held v limit (Some r) = Ok (range_items held r.ends r.exclusive limit)
of_range held v limit None = of_hash held v limit (a_hash held.store.objects v)

abbrev pub of_array : Held → Value → ℕ → Option (List Value) → Result Items Cause
of_array held v limit (Some vs) = Ok (take limit vs, held)
of_array held v limit None = of_range held v limit (range_in (kind_in held.store.objects v))

abbrev pub first_items : Held → Value → ℕ → Result Items Cause
first_items held v limit = of_array held v limit (elements_in held.store.objects v)

-- no list has more items than that
abbrev pub items_of : Held → Value → Result Items Cause
items_of held v = first_items held v (2 ^ 64 - 1)
