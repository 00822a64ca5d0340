-- What comes of values that are compared, one after another.
use Rattle.std.specs.Prelude.{◌≡◌, ℕ, List, [], ◌∷◌, length, map, slice_get, nat_eq, not, Bool, true, false, if◌then◌else◌, Option, Some, None, option_map, unwrap_or}
use Rattle.rb_value.specs.declared.value.Value.{Value}
use Rattle.rb_value.specs.declared.value.Value.TheVariants.{Nil}
use Rattle.rb_value.specs.declared.value.ObjId.{ObjId}
use Rattle.rb_value.specs.declared.hash.HashItem.{HashItem}
use Rattle.rb_value.specs.declared.key.Key.{Key}
use Rattle.rb_value.specs.Value.{is_true}
use Rattle.def_core.specs.Parts.{elements_at, pair_of}
use Rattle.def_core.specs.Store.{Store}
use Rattle.def_calls.specs.Values.{key_of}
use Rattle.rb_store.specs.Held.{Held}
use Rattle.heap.specs.Changes.{with_elements}
use Rattle.heap.specs.Operands.{own}
use Rattle.iter_comparing.specs.Ordering.{same_value}
use Rattle.iter_comparing.specs.Pairing.{is_same}
use Rattle.iter_items.specs.declared.row.GatheringRow.TheVariants as gathering
use Rattle.iter_items.specs.Rows.{gathering_of}
use Rattle.iter_items.specs.Stage.{gathers}
use Rattle.core_iter.specs.Stage.{Stage, items as over_items}
use Rattle.items_laws.specs.Run.{Turn}
use Rattle.items_laws.specs.Items.{IsValue}
use Rattle.items_laws.specs.Lists.{is_untrue, last_of, picked}
use Rattle.items_laws.specs.Asked.{Asks, by_place, symbol, with_symbol}

-- the argument is the value itself
abbrev pub same_as : Value → Value → Bool
same_as x y = same_value y x

abbrev pub nothing_known : Value → Value → Bool
nothing_known x y = false

-- Values are asked from the first place on for the method of a name, and so the result is, by the heap as the last reply left
-- it, the values that were asked, and what they replied.
pub record Compares (name : List ℕ) (known : Value → Value → Bool) (item : Held → ℕ → Option Value)
    (other : Held → ℕ → Value) (stops : Value → Bool) (held : Held) (ts : List Turn)
    (Result : Held → List Value → List Value → Type 0) : Type 0 where
  pub items : List Value
  pub replies : List Value
  pub last : Held
  pub asks : Asks known (symbol name held) (by_place item) other stops (with_symbol name held) 0 ts items replies last
  pub result : Result last items replies

-- where `include?` of Enumerable stands while `each` collects the items in an Array
abbrev pub gathers_for : Value → Value → Option ObjId → ObjId → Stage
gathers_for recv y block collected =
    over_items (gathers (gathering_of gathering.Includes recv (y ∷ []) block collected))

-- the element of an Array at a place, as it stands then
abbrev pub element : ObjId → Held → ℕ → Option Value
element a held n = slice_get (elements_at held.store.objects a) n

-- the value of a pair that a Hash had
abbrev pub value_of : List HashItem → Held → ℕ → Option Value
value_of ps held n = option_map (λ i. i.value) (slice_get ps n)

-- the keys, as they are shown
abbrev pub keys_of : List HashItem → List Value
keys_of ps = map (λ i. i.shown) ps

-- Two Arrays

-- an element that has one of the other Array beside it
abbrev pub beside : Option Value → Option Value → Option Value
beside None o = None
beside (Some x) None = None
beside (Some x) (Some y) = Some x

abbrev pub element_beside : ObjId → ObjId → Held → ℕ → Option Value
element_beside a b held n = beside (element a held n) (element b held n)

abbrev pub element_or_nil : ObjId → Held → ℕ → Value
element_or_nil b held n = unwrap_or (element b held n) Nil

abbrev pub length_at : ObjId → Held → ℕ
length_at a held = length (elements_at held.store.objects a)

-- as long as both have as many
abbrev pub element_of_equal : ObjId → ObjId → Held → ℕ → Option Value
element_of_equal a b held n =
    if nat_eq (length_at a held) (length_at b held) then element_beside a b held n else None

-- how two values stand to each other, where they aren't equal
abbrev pub differs : Value → Bool
differs v = not (is_same true v)

-- the first reply that passes, or another value
abbrev pub first_or : (Value → Bool) → List Value → Value → Value
first_or test [] v = v
first_or test (a ∷ us) v = if test a then a else first_or test us v

-- `delete`: an Array is left with those of these items whose replies aren't true, and the last of the others is given; where
-- there is none, all stays, and nil is given

abbrev pub DeletesThose : ObjId → Held → List Value → List Value → Value → Held → Type 0
DeletesThose a held [] others v after = IsValue held Nil v after
DeletesThose a held (x ∷ xs) others v after = (v ≡ last_of x xs) × (after ≡ with_elements held a others)

abbrev pub Deletes : ObjId → Held → List Value → List Value → Value → Held → Type 0
Deletes a held items replies v after =
    DeletesThose a held (picked is_true items replies) (picked is_untrue items replies) v after

-- Two Hashes

-- the pair that a Hash has under the key of another pair, where it has one

abbrev pub pair_under : Store → ObjId → Option Key → Option HashItem
pair_under st h None = None
pair_under st h (Some k) = pair_of st.objects h k

abbrev pub partner : ObjId → Held → Option HashItem → Option HashItem
partner h held None = None
partner h held (Some i) = pair_under held.store h (key_of held.store.objects (own held.store i.shown))

-- the value of a pair that a Hash had, where the other has its key, and what that has under it

abbrev pub value_beside : Option HashItem → Option HashItem → Option Value
value_beside None o = None
value_beside (Some i) None = None
value_beside (Some i) (Some j) = Some i.value

abbrev pub value_in : Option HashItem → Value
value_in None = Nil
value_in (Some i) = i.value

abbrev pub value_with : List HashItem → ObjId → Held → ℕ → Option Value
value_with ps h held n = value_beside (slice_get ps n) (partner h held (slice_get ps n))

abbrev pub value_under : List HashItem → ObjId → Held → ℕ → Value
value_under ps h held n = value_in (partner h held (slice_get ps n))
