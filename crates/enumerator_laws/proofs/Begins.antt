-- A fiber that begins, a cursor that goes back, and a new Enumerator.
use Rattle.std.proofs.Common.{◌≡◌, ◌<◌, ℕ, List, [], ◌∷◌, ◌++◌, length, get_or, Bool, true, false, refl, sym, ap, subst, ◌∙◌, arith, length-append}
use Rattle.std.specs.Prelude.{Option, Some, None}
use Rattle.std.proofs.Math.Seq.{get_or-append_seam}
use Rattle.std.proofs.lemmas.List.{get_or_append_left}
use Rattle.rb_value.specs.declared.value.Value.{Value}
use Rattle.rb_value.specs.declared.value.Value.TheVariants.{Nil, Obj}
use Rattle.rb_value.specs.declared.value.ObjId.{ObjId}
use Rattle.rb_value.specs.declared.kind.Kind.{Kind}
use Rattle.rb_value.specs.declared.kind.Kind.TheVariants as kind
use Rattle.rb_value.specs.declared.kind.Sort.{Sort}
use Rattle.rb_value.specs.declared.kind.Sort.TheVariants as sort
use Rattle.rb_value.specs.declared.kind.EnumeratorSource.{EnumeratorSource}
use Rattle.rb_value.specs.declared.core_class.CoreClass.TheVariants as class
use Rattle.rb_value.specs.Object.{Object}
use Rattle.def_core.specs.Changes.{is_class_sort}
use Rattle.def_core.specs.declared.cause.Cause.TheVariants as cause
use Rattle.def_core.specs.Store.{Store, absent, core, fresh, next_number, object_at, sort_at, with_object}
use Rattle.def_core.specs.Sound.{census, plays, Sound, SoundKind, SoundObject, Is, IsValue, Array, Class, Fiber, Proc}
use Rattle.def_core.specs.Parts.{elements_in, elements_at}
use Rattle.def_core.proofs.Grows.{new_role, core_is_class, sound_with_object}
use Rattle.def_core.proofs.Roles.{is_plays}
use Rattle.def_core.proofs.Good.{good_below, good_has}
use Rattle.rb_value.specs.Sort.{sort_of}
use Rattle.rb_store.specs.Held.{Held}
use Rattle.heap.specs.declared.enumerators.Cursor.{Cursor}
use Rattle.heap.specs.Changes.{with_cursor}
use Rattle.heap.specs.Reading.{cursor_in}
use Rattle.heap.specs.Operands.{has_proc, own_class, own_source}
use Rattle.heap.proofs.Fresh.{class_own}
use Rattle.heap.specs.Made.{with_core_proc, with_fiber, with_items, with_enumerator, number_for}
use Rattle.def_plans.specs.Plan.{Planned, finishes, resumes, fails, gives as gives_plan}
use Rattle.iter_enumerators.specs.declared.state.EnumeratorState.{EnumeratorState}
use Rattle.iter_enumerators.specs.declared.state.EnumeratorState.TheVariants as state
use Rattle.iter_enumerators.specs.Items.{cursor_at, enumerate_row, next_item, rewind, wake, with_begun}
use Rattle.enumerator_laws.specs.Course.{Course, begun, held_back}
use Rattle.enumerator_laws.specs.Told.{course_by, IsEnumerator, HasCome, Gives, Asks}
use Rattle.enumerator_laws.proofs.Cursors.{Known, known, Owned, owned, set_course, with_one, one_there, one_known, same_elements}

-- an object of a class with sound contents
is_fresh : (st : Store) (c : ObjId) (x : Kind) → Is (census st) Class c → SoundKind (census st) (length st.objects) x
    → SoundObject (census st) (length st.objects) (fresh c x)
is_fresh st c x is holds = record { class = is; singleton = tt; variables = tt; kind = holds }

-- `rewind`

pub rewound : (held : Held) (e : ObjId) (c : Cursor) → IsEnumerator held e c
    → Gives (rewind held e) (Obj e) e begun None
rewound held e c is =
    let k = known held e c is.sound is.there in
    let new = fresh (core class.Array) (kind.Array []) in
    let right = is_fresh held.store (core class.Array) (kind.Array [])
    (core_is_class held.store is.sound class.Array refl) tt in
    let longer = one_known held e c new is.sound right k is.there in
    let d : Cursor = record { fiber = None; items = next_number held.store; position = 0; result = None } in
    let set = set_course (with_one held new) e c d longer
    (record { fiber = tt; items = new_role held.store new Array refl; result = tt }) in
    let empty = ap (λ (x : Object). elements_in x.kind) (get_or-append_seam held.store.objects new [] absent) in
    record {
      plan = refl;
      come = subst (λ (xs : List Value). HasCome (rewind held e).held e
          (record { items = xs; given = 0; result = None }) None) empty set;
    }

-- A fiber begins.

proc_there : (st : Store) (o : Object) → plays Proc (sort_of o.kind) ≡ true
    → has_proc (with_object st o) (next_number st) ≡ true
proc_there st o h = is_plays (with_object st o) Proc (next_number st) (new_role st o Proc h)

-- the Proc that the fiber runs, and the fiber
abbrev running : ObjId → Object
running e = fresh (core class.Proc) (kind.CoreProc enumerate_row (Obj e))

abbrev with_proc : Held → ObjId → Held
with_proc held e = with_one held (running e)

abbrev fiber_for : Held → Object
fiber_for held = fresh (core class.Fiber) (kind.Fiber (next_number held.store) false)

abbrev number_of_fiber : Held → ObjId → ObjId
number_of_fiber held e = next_number (with_proc held e).store

abbrev with_both : Held → ObjId → Held
with_both held e = with_one (with_proc held e) (fiber_for held)

abbrev with_fiber_noted : Held → ObjId → Cursor → Cursor
with_fiber_noted held e c = record c { fiber = Some (number_of_fiber held e) }

abbrev begins_by : Held → ObjId → Cursor → Bool → Planned EnumeratorState
begins_by held e c leaves = record {
  plan = resumes (state.Waits e (number_of_fiber held e) leaves) (number_of_fiber held e) [];
  held = with_cursor (with_both held e) e (with_fiber_noted held e c);
}

proc_right : (held : Held) (e : ObjId) (c : Cursor) → Sound held.store → Known held e c
    → SoundObject (census held.store) (length held.store.objects) (running e)
proc_right held e c sound k = is_fresh held.store (core class.Proc) (kind.CoreProc enumerate_row (Obj e))
    (core_is_class held.store sound class.Proc refl) (good_below held.store e k.within).there

with_proc_sound : (held : Held) (e : ObjId) (c : Cursor) → Sound held.store → Known held e c → Sound (with_proc held e).store
with_proc_sound held e c sound k = sound_with_object held.store sound (running e) (proc_right held e c sound k)

wake_is : (held : Held) (e : ObjId) (c : Cursor) (leaves : Bool) → Sound held.store → Known held e c
    → wake held e c leaves None ≡ begins_by held e c leaves
wake_is held e c leaves sound k =
    let sound1 = with_proc_sound held e c sound k in
    rw (
      good_has held.store e (good_below held.store e k.within),
      proc_there held.store (running e) refl,
      class_own (with_proc held e).store (core class.Fiber) (core_is_class (with_proc held e).store sound1 class.Fiber refl),
    ) refl

fiber_noted : (held : Held) (e : ObjId) (c : Cursor) → IsEnumerator held e c
    → HasCome (with_cursor (with_both held e) e (with_fiber_noted held e c)) e (course_by held c)
    (Some (number_of_fiber held e))
fiber_noted held e c is =
    let k = known held e c is.sound is.there in
    let right1 = proc_right held e c is.sound k in
    let sound1 = with_proc_sound held e c is.sound k in
    let k1 = one_known held e c (running e) is.sound right1 k is.there in
    let there1 = one_there held e c (running e) k is.there in
    let right2 = is_fresh (with_proc held e).store (core class.Fiber) (kind.Fiber (next_number held.store) false)
    (core_is_class (with_proc held e).store sound1 class.Fiber refl) (new_role held.store (running e) Proc refl) in
    let k2 = one_known (with_proc held e) e c (fiber_for held) sound1 right2 k1 there1 in
    let o = owned (with_both held e) e c k2 in
    let set = set_course (with_both held e) e c (with_fiber_noted held e c) k2
    (record { fiber = new_role (with_proc held e).store (fiber_for held) Fiber refl; items = o.items; result = o.result }) in
    let same = same_elements (with_proc held e) e c (fiber_for held) k1 ∙ same_elements held e c (running e) k in
    subst (λ (xs : List Value). HasCome (with_cursor (with_both held e) e (with_fiber_noted held e c)) e
    (record { items = xs; given = c.position; result = c.result }) (Some (number_of_fiber held e))) same set

fiber_begins : (held : Held) (e : ObjId) (c : Cursor) (leaves : Bool) → IsEnumerator held e c
    → Asks (wake held e c leaves None) e leaves (course_by held c)
fiber_begins held e c leaves is =
    let k = known held e c is.sound is.there in
    subst (λ (p : Planned EnumeratorState). Asks p e leaves (course_by held c)) (sym (wake_is held e c leaves is.sound k))
    (record { fiber = number_of_fiber held e; plan = refl; come = fiber_noted held e c is })

fiber_resumed : (held : Held) (e : ObjId) (c : Cursor) (leaves : Bool) (f : Option ObjId) → IsEnumerator held e c
    → c.fiber ≡ f → Asks (wake held e c leaves f) e leaves (course_by held c)
fiber_resumed held e c leaves None is same = fiber_begins held e c leaves is
fiber_resumed held e c leaves (Some f) is same = record {
  fiber = f;
  plan = refl;
  come = record { cursor = c; there = is.there; course = refl; fiber_is = same };
}

-- `next` and `peek` where nothing is held back
pub item_asked : (held : Held) (e : ObjId) (c : Cursor) (leaves : Bool) → IsEnumerator held e c
    → held_back (course_by held c) ≡ None → c.result ≡ None → Asks (next_item held e leaves) e leaves (course_by held c)
item_asked held e c leaves is none more =
    let woken : next_item held e leaves ≡ wake held e c leaves c.fiber = rw (is.there, none, more) refl in
    subst (λ (p : Planned EnumeratorState). Asks p e leaves (course_by held c)) (sym woken)
    (fiber_resumed held e c leaves c.fiber is refl)

-- A new Enumerator.

pub made : (held : Held) (class_number : ObjId) (source own : EnumeratorSource)
    → own_source (with_items held).store source ≡ Some own
    → HasCome (with_enumerator held class_number source) (next_number (with_items held).store) begun None
made held class_number source own is =
    let array = fresh (core class.Array) (kind.Array []) in
    let cursor : Cursor = record { fiber = None; items = next_number held.store; position = 0; result = None } in
    let new = fresh (own_class (with_items held).store class_number) (kind.Enumerator (record {
      source = own;
      fiber = None;
      items = next_number held.store;
      position = 0;
      result = None;
    })) in
    let longer : length held.store.objects < length (held.store.objects ++ array ∷ []) = rw length-append (omega arith) in
    rw is (record {
      cursor = cursor;
      there = ap (λ (x : Object). cursor_in x.kind)
          (get_or-append_seam (held.store.objects ++ array ∷ []) new [] absent);
      course = ap (λ (x : Object). record { items = elements_in x.kind; given = 0; result = None })
          (get_or_append_left (held.store.objects ++ array ∷ []) (new ∷ []) absent (length held.store.objects) longer
          ∙ get_or-append_seam held.store.objects array [] absent);
      fiber_is = refl;
    })
