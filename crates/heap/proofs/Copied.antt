-- Copies: what a call leaves, and steps one after another.
use Rattle.std.proofs.Common.{◌≡◌, ℕ, zero, suc, ◌-◌, ◌<◌, ◌≤◌, List, [], ◌∷◌, length, drop, Bool, true, false, refl, ap, sym, arith}
use Rattle.std.specs.Prelude.{Result, Ok, Err, OnOk, Option, Some, None, if◌then◌else◌, slice_index_or}
use Rattle.std.specs.declared.alloc.AllocError.{AllocError}
use Rattle.def_calls.specs.World.{World, Answer}
use Rattle.rb_store.specs.Held.{Held}
use Rattle.run_values.specs.declared.given.Given.{Given}
use Rattle.run_values.specs.Answers.{Answers}
use Rattle.def_core.specs.Store.{Store}
use Rattle.rb_value.specs.declared.value.ObjId.{ObjId}
use Rattle.rb_value.specs.declared.value.Value.{Value}
use Rattle.rb_value.specs.declared.kind.EnumeratorSource.{EnumeratorSource}
use Rattle.rb_value.specs.declared.procs.ProcContents.{ProcContents}
use Rattle.def_core.specs.Store.{object_at, sort_at, next_number}
use Rattle.heap.specs.Operands.{has_all, has_proc, is_array, is_string, is_hash, own_source, own_class}
use Rattle.heap.specs.Reading.{proc_in}
use Rattle.heap.specs.Changes as change
use Rattle.heap.specs.Made as made
use Rattle.heap.specs.Copies.{alone, at, left, steps, with_bytes, with_elements, with_absent, with_proc_copy, with_fiber, with_enumerator, with_yielder, with_mixin, with_mixins, copied, copy_left}
use Rattle.heap.proofs.Fresh.{held_is}

pub store_left : (before after : Held) (r : Result Given AllocError) (defined : World → Answer)
    → Answers before after r defined → OnOk r (after.store ≡ left defined before.store)
store_left before after (Ok g) defined answers =
    sym (ap (λ (a : Answer). a.world.store) (answers.answer (alone before.store)))
store_left before after (Err e) defined answers = tt

-- What is left of the store doesn't depend on the count of changes.

chosen : (b : Bool) (x y z w : Held) → x.store ≡ y.store → z.store ≡ w.store
    → (if b then x else z).store ≡ (if b then y else w).store
chosen true x y z w e f = e
chosen false x y z w e f = f

pub bytes_left : (held : Held) (id : ObjId) (bytes : List ℕ)
    → (change.with_bytes held id bytes).store ≡ with_bytes held.store id bytes
bytes_left held id bytes = chosen (is_string (sort_at held.store.objects id)) _ _ _ _ refl refl

pub elements_left : (held : Held) (id : ObjId) (vs : List Value)
    → (change.with_elements held id vs).store ≡ with_elements held.store id vs
elements_left held id vs = chosen (has_all held.store vs) _ _ _ _
    (chosen (is_array (sort_at held.store.objects id)) _ _ _ _ refl refl) refl

pub absent_left : (held : Held) (id : ObjId) (default : Value) (block : Option ObjId)
    → (change.with_absent held id default block).store ≡ with_absent held.store id default block
absent_left held id default block = chosen (is_hash (sort_at held.store.objects id)) _ _ _ _ refl refl

proc_by : (held : Held) (p : Option ProcContents) (lambda : Bool)
    → (made.copied held p lambda).store ≡ (made.copied (at held.store) p lambda).store
proc_by held None lambda = refl
proc_by held (Some p) lambda = refl

pub proc_left : (held : Held) (id : ObjId) (lambda : Bool)
    → (made.with_proc_copy held id lambda).store ≡ with_proc_copy held.store id lambda
proc_left held id lambda = proc_by held (proc_in (object_at held.store.objects id).kind) lambda

pub fiber_left : (held : Held) (class block : ObjId)
    → (made.with_fiber held class block).store ≡ with_fiber held.store class block
fiber_left held class block = chosen (has_proc held.store block) _ _ _ _ refl refl

pub yielder_left : (held : Held) (block : ObjId)
    → (made.with_yielder held block).store ≡ with_yielder held.store block
yielder_left held block = chosen (has_proc held.store block) _ _ _ _ refl refl

enumerator_by : (held other : Held) (of items : ObjId) (s : Option EnumeratorSource) → held.store ≡ other.store
    → (made.enumerator_by held of items s).store ≡ (made.enumerator_by other of items s).store
enumerator_by held other of items None e = e
enumerator_by held other of items (Some s) e = rw e refl

pub enumerator_left : (held : Held) (class : ObjId) (source : EnumeratorSource)
    → (made.with_enumerator held class source).store ≡ with_enumerator held.store class source
enumerator_left held class source = enumerator_by (made.with_items held) (made.with_items (at held.store))
    (own_class (made.with_items held).store class) (next_number held.store)
    (own_source (made.with_items held).store source) refl

-- The count of changes stays.

counts : (b : Bool) (x z : Held) (n : ℕ) → x.changes ≡ n → z.changes ≡ n → (if b then x else z).changes ≡ n
counts true x z n e f = e
counts false x z n e f = f

pub bytes_count : (held : Held) (id : ObjId) (bytes : List ℕ) → (change.with_bytes held id bytes).changes ≡ held.changes
bytes_count held id bytes = counts (is_string (sort_at held.store.objects id)) _ _ _ refl refl

pub elements_count : (held : Held) (id : ObjId) (vs : List Value)
    → (change.with_elements held id vs).changes ≡ held.changes
elements_count held id vs = counts (has_all held.store vs) _ _ _
    (counts (is_array (sort_at held.store.objects id)) _ _ _ refl refl) refl

pub absent_count : (held : Held) (id : ObjId) (default : Value) (block : Option ObjId)
    → (change.with_absent held id default block).changes ≡ held.changes
absent_count held id default block = counts (is_hash (sort_at held.store.objects id)) _ _ _ refl refl

proc_count_by : (held : Held) (p : Option ProcContents) (lambda : Bool)
    → (made.copied held p lambda).changes ≡ held.changes
proc_count_by held None lambda = refl
proc_count_by held (Some p) lambda = refl

pub proc_count : (held : Held) (id : ObjId) (lambda : Bool)
    → (made.with_proc_copy held id lambda).changes ≡ held.changes
proc_count held id lambda = proc_count_by held (proc_in (object_at held.store.objects id).kind) lambda

pub fiber_count : (held : Held) (class block : ObjId) → (made.with_fiber held class block).changes ≡ held.changes
fiber_count held class block = counts (has_proc held.store block) _ _ _ refl refl

pub yielder_count : (held : Held) (block : ObjId) → (made.with_yielder held block).changes ≡ held.changes
yielder_count held block = counts (has_proc held.store block) _ _ _ refl refl

enumerator_count_by : (held : Held) (of items : ObjId) (s : Option EnumeratorSource)
    → (made.enumerator_by held of items s).changes ≡ held.changes
enumerator_count_by held of items None = refl
enumerator_count_by held of items (Some s) = refl

pub enumerator_count : (held : Held) (class : ObjId) (source : EnumeratorSource)
    → (made.with_enumerator held class source).changes ≡ held.changes
enumerator_count held class source = enumerator_count_by (made.with_items held)
    (own_class (made.with_items held).store class) (next_number held.store)
    (own_source (made.with_items held).store source)

-- a copy by which nothing counts as changed
pub copy_is : (before after : Held) (v : Value) → after.store ≡ copied before.store v → after.changes ≡ before.changes
    → after ≡ copy_left before v
copy_is before after v e f = held_is after (copy_left before v) e f

-- One step after another.

-- one step more
pub steps_more : {A : Type 0} (step : ℕ → A → A) (count place : ℕ) (x : A) → place < count
    → steps step (count - place) place x ≡ steps step (count - suc place) (suc place) (step place x)
steps_more step count place x lt =
    let e : count - place ≡ suc (count - suc place) = omega (arith, lt) in
    ap (λ (n : ℕ). steps step n place x) e

-- no more
pub steps_end : {A : Type 0} (step : ℕ → A → A) (count place : ℕ) (x : A) → count ≤ place
    → steps step (count - place) place x ≡ x
steps_end step count place x le =
    let e : count - place ≡ zero = omega (arith, le) in ap (λ (n : ℕ). steps step n place x) e

-- the module at a place, after those behind it
pub mixin_more : (st : Store) (made : ObjId) (ms : List ObjId) (n : ℕ) (d : ObjId) → n < length ms
    → with_mixins st made (drop n ms) ≡ with_mixin (with_mixins st made (drop (suc n) ms)) made (slice_index_or ms n d)
mixin_more st made [] n d lt = absurd (omega arith)
mixin_more st made (m ∷ ms) zero d lt = refl
mixin_more st made (m ∷ ms) (suc n) d lt = mixin_more st made ms n d (omega (arith, lt))

-- and so before a place
pub mixin_before : (st : Store) (made : ObjId) (ms : List ObjId) (n : ℕ) (d : ObjId) → zero < n → n ≤ length ms
    → with_mixins st made (drop (n - 1) ms) ≡ with_mixin (with_mixins st made (drop n ms)) made (slice_index_or ms (n - 1) d)
mixin_before st made ms zero d some within = absurd (omega (arith, some))
mixin_before st made ms (suc n) d some within =
    let e : suc n - 1 ≡ n = omega arith in rw e (mixin_more st made ms n d (omega (arith, within)))

-- at the first there are all
pub all_mixins : (st : Store) (made : ObjId) (ms : List ObjId) (n : ℕ) → n ≤ zero
    → with_mixins st made (drop n ms) ≡ with_mixins st made ms
all_mixins st made ms zero none = refl
all_mixins st made ms (suc n) none = absurd (omega (arith, none))

-- behind the last there is none
pub no_mixin : (st : Store) (made : ObjId) (ms : List ObjId) → with_mixins st made (drop (length ms) ms) ≡ st
no_mixin st made [] = refl
no_mixin st made (m ∷ ms) = no_mixin st made ms
