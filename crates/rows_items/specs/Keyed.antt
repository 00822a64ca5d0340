-- Values as keys of Hashes.
use Rattle.std.specs.Prelude.{◌≡◌, ℕ, ℤ, pos, List, [], ◌∷◌, if◌then◌else◌, Option, Some, None, is_some, Result, Ok, Err}
use Rattle.std.specs.Option.{ok_or}
use Rattle.std.specs.Int.{w64, int_wrapping_add}
use Rattle.rb_value.specs.declared.value.Value.{Value}
use Rattle.rb_value.specs.declared.value.Value.TheVariants.{Int, Obj}
use Rattle.rb_value.specs.declared.value.ObjId.{ObjId}
use Rattle.rb_value.specs.declared.key.Key.{Key}
use Rattle.rb_value.specs.declared.hash.HashItem.{HashItem}
use Rattle.rb_value.specs.declared.core_class.CoreClass.TheVariants as class
use Rattle.rb_value.specs.declared.kind.Kind.TheVariants as kind
use Rattle.rb_value.specs.Key.{same_key}
use Rattle.indexmap.specs.IndexMap.{insert_entry}
use Rattle.std.specs.Map.{lookup}
use Rattle.def_core.specs.declared.cause.Cause.{Cause}
use Rattle.def_core.specs.declared.cause.Cause.TheVariants.{StackTooDeep}
use Rattle.def_core.specs.Store.{Store, core, next_number, same_object}
use Rattle.def_core.specs.Classes.{plain_class_of}
use Rattle.def_core.specs.Parts.{no_pairs, pair_of}
use Rattle.def_calls.specs.Values as values
use Rattle.def_calls.specs.Views.{a_string, integer_in, kind_in, string_of}
use Rattle.rb_store.specs.Held.{Held}
use Rattle.heap.specs.Operands.{own}
use Rattle.heap.specs.Made.{with_new}
use Rattle.heap.specs.Changes.{can_put, with_pair}
use Rattle.rows_items.specs.declared.error.RowError.{RowError}
use Rattle.rows_items.specs.declared.error.RowError.TheVariants.{Fails, NoMemory}
use Rattle.rows_items.specs.Told.{and_then, with_front}
use Rattle.rows_items.specs.Outcome.{Outcome, gives, refuses}

-- the key that a value is; Arrays that stand in one another too deep are none
abbrev pub key_in : Store → Value → Result Key Cause
key_in st v = ok_or (values.key_of st.objects (own st v)) StackTooDeep

-- The first of the values that are equal as keys, after those with the keys that were seen.

abbrev pub unless_seen : Option Value → Value → Result (List Value) Cause → Result (List Value) Cause
unless_seen None v rest = with_front (v ∷ []) rest
unless_seen (Some before) v rest = rest

abbrev pub unique_after : Store → List (Key × Value) → List Value → Result (List Value) Cause
unique_after st seen [] = Ok []
unique_after st seen (v ∷ vs) = and_then (key_in st v) (λ key.
    unless_seen (lookup (same_key key) seen) v (unique_after st (insert_entry same_key seen key v) vs))

abbrev pub unique : Store → List Value → Result (List Value) Cause
unique st vs = unique_after st [] vs

-- What a Hash shows as a key: a String that isn't there yet by a copy, and else the value.

abbrev pub copied : Held → Value → Option (List ℕ) → Value × Held
copied held v None = (v, held)
copied held v (Some text) = if same_object (plain_class_of held.store.objects (own held.store v)) (core class.String)
    then (Obj (next_number held.store), with_new held (core class.String) (kind.String text)) else (v, held)

abbrev pub shown_copy : Held → Value → Value × Held
shown_copy held v = copied held v (string_of (kind_in held.store.objects v))

abbrev pub shown_beside : Held → Value → Option HashItem → Value × Held
shown_beside held v None = shown_copy held v
shown_beside held v (Some item) = (v, held)

abbrev pub shown_text : Held → ObjId → Value → Result (Value × Held) Cause
shown_text held id v = and_then (key_in held.store v)
    (λ key. Ok (shown_beside held v (pair_of held.store.objects id key)))

abbrev pub shown : Held → ObjId → Value → Result (Value × Held) Cause
shown held id v = if is_some (a_string held.store.objects v) then shown_text held id v else Ok (v, held)

-- a pair under what is shown as its key
abbrev pub put_shown : ObjId → Value → Value × Held → Result Held Cause
put_shown id value s = if can_put s.1 id s.0 then Ok (with_pair s.1 id s.0 value) else Err StackTooDeep

-- a key with a value: one that is there keeps its place and what is shown
abbrev pub put : Held → ObjId → Value → Value → Result Held Cause
put held id key value = and_then (shown held id key) (put_shown id value)

-- How often each of the values is there: a count under each key.

abbrev pub one_more : Option ℤ → Value
one_more None = Int (pos 1)
one_more (Some n) = Int (int_wrapping_add w64 n (pos 1))

abbrev pub counted_value : Option HashItem → Value
counted_value None = Int (pos 1)
counted_value (Some item) = one_more (integer_in item.value)

-- what is refused ends it, and what was counted stays in the Hash
pub record Tallied : Type 0 where
  pub refused : Option Cause
  pub held : Held

-- the cause, and the heap with what was counted before it; memory may run out
abbrev pub IsRefused : Held → Tallied → RowError → Type 0
IsRefused held t (Fails c) = t ≡ record { refused = Some c; held = held }
IsRefused held t NoMemory = Unit {0}

abbrev pub tally_on : Held → Result Held Cause → (Held → Tallied) → Tallied
tally_on held (Ok after) next = next after
tally_on held (Err c) next = record { refused = Some c; held = held }

abbrev pub counted : Held → ObjId → Value → Result Held Cause
counted held id v = and_then (key_in held.store v)
    (λ key. put held id v (counted_value (pair_of held.store.objects id key)))

abbrev pub tallied_in : Held → ObjId → List Value → Tallied
tallied_in held id [] = record { refused = None; held = held }
tallied_in held id (v ∷ vs) = tally_on held (counted held id v) (λ after. tallied_in after id vs)

abbrev pub with_hash : Held → Held
with_hash held = with_new held (core class.Hash) (kind.Hash no_pairs)

abbrev pub tally_given : ObjId → Tallied → Option Cause → Outcome
tally_given id t None = gives t.held (Obj id)
tally_given id t (Some c) = refuses t.held c

abbrev pub tally_of : ObjId → Tallied → Outcome
tally_of id t = tally_given id t t.refused

-- a new Hash of the counts
abbrev pub tallied : Held → List Value → Outcome
tallied held vs = tally_of (next_number held.store) (tallied_in (with_hash held) (next_number held.store) vs)
