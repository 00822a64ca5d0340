-- Pairs of one Hash that are put into another, one after another: each is the one that stands at its place then.
use Rattle.std.specs.Prelude.{◌≡◌, ℕ, zero, suc, length, if◌then◌else◌, Option, Some, None, option_map, slice_get, Result, Ok, Err}
use Rattle.rb_value.specs.declared.value.Value.{Value}
use Rattle.rb_value.specs.declared.value.Value.TheVariants.{Obj}
use Rattle.rb_value.specs.declared.value.ObjId.{ObjId}
use Rattle.rb_value.specs.declared.hash.HashItem.{HashItem}
use Rattle.rb_value.specs.declared.core_class.CoreClass.TheVariants as class
use Rattle.rb_value.specs.declared.kind.Kind.TheVariants as kind
use Rattle.def_core.specs.declared.cause.Cause.{Cause}
use Rattle.def_core.specs.declared.cause.Cause.TheVariants.{StackTooDeep}
use Rattle.def_core.specs.Store.{core, next_number}
use Rattle.def_core.specs.Parts.{no_pairs}
use Rattle.def_calls.specs.Views.{a_hash}
use Rattle.rb_store.specs.Held.{Held}
use Rattle.heap.specs.Changes.{can_put, with_pair}
use Rattle.heap.specs.Copies.{copy_left, copy_of}
use Rattle.heap.specs.Made.{with_new}
use Rattle.rows_items.specs.declared.error.RowError.{RowError}
use Rattle.rows_items.specs.declared.error.RowError.TheVariants.{Fails, NoMemory}
use Rattle.rows_items.specs.Outcome.{Outcome, gives, refuses}
use Rattle.rows_items.specs.Keyed.{put}
use Rattle.rows_hash.specs.Pairs.{hash_of, pairs}

abbrev pub item_at : Held → ObjId → ℕ → Option HashItem
item_at held id place = option_map (λ p. p.1) (slice_get (pairs held.store id) place)

-- What steps leave that are done one after another: the heap, and why the rest of them wasn't done.
pub record Left : Type 0 where
  pub held : Held
  pub refused : Option Cause

abbrev pub go_on : Held → Result Held Cause → (Held → Left) → Left
go_on held (Ok after) next = next after
go_on held (Err c) next = record { held = held; refused = Some c }

-- so many steps from a place on; the first that is refused ends all
abbrev pub step_by_step : (ℕ → Held → Result Held Cause) → ℕ → ℕ → Held → Left
step_by_step step zero place held = record { held = held; refused = None }
step_by_step step (suc n) place held = go_on held (step place held) (step_by_step step n (suc place))

abbrev pub LeftAs : {A : Type 0} → Left → Held → Result A RowError → Type 0
LeftAs left after (Ok x) = left ≡ record { held = after; refused = None }
LeftAs left after (Err (Fails c)) = left ≡ record { held = after; refused = Some c }
LeftAs left after (Err NoMemory) = Unit {0}

-- a value is given where all were done
abbrev pub ends_by : Value → Held → Option Cause → Outcome
ends_by v held None = gives held v
ends_by v held (Some c) = refuses held c

abbrev pub ends_with : Value → Left → Outcome
ends_with v left = ends_by v left.held left.refused

-- under what is shown as the key there
abbrev pub put_item : ObjId → Held → Option HashItem → Result Held Cause
put_item id held None = Ok held
put_item id held (Some item) =
    if can_put held id item.shown then Ok (with_pair held id item.shown item.value) else Err StackTooDeep

abbrev pub put_at : ObjId → ObjId → ℕ → Held → Result Held Cause
put_at id other place held = put_item id held (item_at held other place)

abbrev pub put_all : Held → ObjId → ObjId → Left
put_all held id other = step_by_step (put_at id other) (length (pairs held.store other)) 0 held

-- `merge!` and `update`, which give the Hash

abbrev pub update_by : Held → ObjId → Result ObjId Cause → Outcome
update_by held id (Ok other) = ends_with (Obj id) (put_all held id other)
update_by held id (Err c) = refuses held c

abbrev pub update : Held → ObjId → Value → Outcome
update held id v = update_by held id (hash_of held.store v)

-- `merge`: a copy of the Hash, as an object is copied, into which the pairs are put

abbrev pub into_copy : Held → Value → Option ObjId → Value → Outcome
into_copy held copy None other = gives held copy
into_copy held copy (Some own) other = update held own other

abbrev pub merge_copied : Held → Value → Value → Outcome
merge_copied held copy other = into_copy held copy (a_hash held.store.objects copy) other

abbrev pub merge_by : Held → ObjId → Value → Result ObjId Cause → Outcome
merge_by held id v (Ok other) = merge_copied (copy_left held (Obj id)) (copy_of held.store (Obj id)) v
merge_by held id v (Err c) = refuses held c

abbrev pub merge : Held → ObjId → Value → Outcome
merge held id v = merge_by held id v (hash_of held.store v)

-- `invert`: a new Hash whose keys are the values, and whose values are the keys; of equal ones the last counts

abbrev pub put_turned : ObjId → Held → Option HashItem → Result Held Cause
put_turned own held None = Ok held
put_turned own held (Some item) = put held own item.value item.shown

abbrev pub turned_at : ObjId → ObjId → ℕ → Held → Result Held Cause
turned_at own id place held = put_turned own held (item_at held id place)

abbrev pub turn_all : Held → ObjId → ObjId → Left
turn_all held own id = step_by_step (turned_at own id) (length (pairs held.store id)) 0 held

abbrev pub with_hash : Held → Held
with_hash held = with_new held (core class.Hash) (kind.Hash no_pairs)

abbrev pub invert : Held → ObjId → Outcome
invert held id = ends_with (Obj (next_number held.store)) (turn_all (with_hash held) (next_number held.store) id)
