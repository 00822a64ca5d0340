-- What each method of an Enumerator leaves of its course.
use Rattle.std.proofs.Common.{◌≡◌, ◌<◌, ◌≤◌, ◌≢◌, ℕ, ◌+◌, ◌-◌, ◌^◌, List, [], ◌∷◌, ◌++◌, length, Bool, true, false, refl, sym, ap, subst, ◌∙◌, arith, length-append}
use Rattle.std.specs.Prelude.{Option, Some, None, slice_get, min, nat_eq}
use Rattle.std.proofs.lemmas.Bool.Decides.{nat_tests}
use Rattle.std.proofs.Math.Nat.{min-eq_left}
use Rattle.std.proofs.lemmas.Option.{slice_get_within}
use Rattle.std.proofs.lemmas.List.{get_or-set_same, get_or-set_other, get_or_append_left}
use Rattle.rb_value.specs.declared.value.Value.{Value}
use Rattle.rb_value.specs.declared.value.Value.TheVariants.{Obj}
use Rattle.rb_value.specs.declared.value.ObjId.{ObjId}
use Rattle.def_core.specs.declared.cause.Cause.TheVariants as cause
use Rattle.def_core.specs.Parts.{elements_at}
use Rattle.def_core.specs.Store.{next_number, same_object}
use Rattle.def_core.specs.Sound.{census, Sound, IsValue}
use Rattle.rb_store.specs.Held.{Held, one_more}
use Rattle.heap.specs.Changes.{with_cursor, pushed}
use Rattle.heap.specs.declared.enumerators.Cursor.{Cursor}
use Rattle.def_plans.specs.Plan.{Planned, finishes, gives as gives_plan, refuses}
use Rattle.iter_enumerators.specs.declared.state.EnumeratorState.{EnumeratorState}
use Rattle.iter_enumerators.specs.Items.{cursor_at, give, passed, is_same, next_item, take_item, end, rewind}
use Rattle.enumerator_laws.specs.Course.{Course, begun, held_back, gives, comes, returns, stops, after, May}
use Rattle.enumerator_laws.specs.Told.{course_by, IsEnumerator, HasCome, Gives, Asks, taken}
use Rattle.enumerator_laws.proofs.Cursors.{Known, known, Owned, owned, set_course, with_item, is_pushed, with_item_there, with_item_known, item_added}

known_by : (held : Held) (e : ObjId) (c : Cursor) → IsEnumerator held e c → Known held e c
known_by held e c is = known held e c is.sound is.there

-- nothing is lost of the count of those that were given
counted : (n : ℕ) → n + 1 < 2 ^ 64 → one_more n ≡ n + 1
counted n less = min-eq_left (omega (arith, less))

-- `next` and `peek` where an item is held back

pub item_passed : (held : Held) (e : ObjId) (c : Cursor) (v : Value) → IsEnumerator held e c → May (course_by held c) (gives v)
    → Gives (next_item held e true) v e (after (course_by held c) (gives v)) c.fiber
item_passed held e c v is may =
    let k = known_by held e c is in
    let o = owned held e c k in
    let set = set_course held e c (passed c) k (record { fiber = o.fiber; items = o.items; result = o.result }) in
    let small = slice_get_within (course_by held c).items c.position v may in
    rw (is.there, may) (record {
      plan = refl;
      come = subst (λ (n : ℕ). HasCome (with_cursor held e (passed c)) e
          (record { items = elements_at held.store.objects c.items; given = n; result = c.result }) c.fiber)
          (counted c.position (omega (arith, small, is.countable))) set;
    })

pub item_stays : (held : Held) (e : ObjId) (c : Cursor) (v : Value) → IsEnumerator held e c → May (course_by held c) (gives v)
    → next_item held e false ≡ gives_plan held v
item_stays held e c v is may = rw (is.there, may) refl

pub end_told : (held : Held) (e : ObjId) (c : Cursor) (leaves : Bool) (r : Value) → IsEnumerator held e c
    → May (course_by held c) (stops r) → next_item held e leaves ≡ refuses held (cause.IterationEnd r)
end_told held e c leaves r is may = rw (is.there, may.0, may.1) refl

-- An item comes.

same_fiber : (f : ObjId) → is_same (Some f) (Some f) ≡ true
same_fiber f = grind (arith, nat_tests)

item_shown : (held : Held) (e : ObjId) (c : Cursor) (v : Value) → IsEnumerator held e c → IsValue (census held.store) v
    → HasCome (with_item held c v) e (after (course_by held c) (comes v)) c.fiber
item_shown held e c v is value =
    let k = known_by held e c is in
    record {
      cursor = c;
      there = with_item_there held e c v k is.there;
      course = ap (λ (xs : List Value). record { items = xs; given = c.position; result = c.result })
          (item_added held e c v k);
      fiber_is = refl;
    }

item_given : (held : Held) (e : ObjId) (c : Cursor) (v : Value) → IsEnumerator held e c → IsValue (census held.store) v
    → HasCome (with_cursor (with_item held c v) e (passed c)) e (after (after (course_by held c) (comes v)) (gives v)) c.fiber
item_given held e c v is value =
    let k = known_by held e c is in
    let more = with_item_known held e c v is.sound k is.there value in
    let o = owned (with_item held c v) e c more in
    let set = set_course (with_item held c v) e c (passed c) more
    (record { fiber = o.fiber; items = o.items; result = o.result }) in
    let by_items = subst (λ (xs : List Value). HasCome (with_cursor (with_item held c v) e (passed c)) e
    (record { items = xs; given = one_more c.position; result = c.result }) c.fiber) (item_added held e c v k) set in
    subst (λ (n : ℕ). HasCome (with_cursor (with_item held c v) e (passed c)) e
    (record { items = elements_at held.store.objects c.items ++ v ∷ []; given = n; result = c.result }) c.fiber)
    (counted c.position (omega (arith, is.within, is.countable))) by_items

taken_is : (held : Held) (e fiber : ObjId) (c : Cursor) (leaves : Bool) (v : Value) → IsEnumerator held e c
    → c.fiber ≡ Some fiber → IsValue (census held.store) v → May (course_by held c) (comes v)
    → take_item held e fiber leaves v ≡ give (with_item held c v) e c v leaves
taken_is held e fiber c leaves v is same value may =
    let o = owned held e c (known_by held e c is) in
    rw (is.there, same, same_fiber fiber, may.1, is_pushed held c v o value) refl

given_or_shown : (held : Held) (e : ObjId) (c : Cursor) (leaves : Bool) (v : Value) → IsEnumerator held e c
    → IsValue (census held.store) v
    → Gives (give (with_item held c v) e c v leaves) v e (taken leaves (course_by held c) v) c.fiber
given_or_shown held e c true v is value = record { plan = refl; come = item_given held e c v is value }
given_or_shown held e c false v is value = record { plan = refl; come = item_shown held e c v is value }

pub item_taken : (held : Held) (e fiber : ObjId) (c : Cursor) (leaves : Bool) (v : Value) → IsEnumerator held e c
    → c.fiber ≡ Some fiber → IsValue (census held.store) v → May (course_by held c) (comes v)
    → Gives (take_item held e fiber leaves v) v e (taken leaves (course_by held c) v) c.fiber
item_taken held e fiber c leaves v is same value may =
    subst (λ (p : Planned EnumeratorState). Gives p v e (taken leaves (course_by held c) v) c.fiber)
    (sym (taken_is held e fiber c leaves v is same value may)) (given_or_shown held e c leaves v is value)

-- The source returns.

same_again : (f : Option ObjId) → is_same f f ≡ true
same_again None = refl
same_again (Some f) = same_fiber f

pub result_noted : (held : Held) (e : ObjId) (c : Cursor) (r : Value) → IsEnumerator held e c
    → IsValue (census held.store) r
    → Gives (end held e c.fiber r) r e (after (course_by held c) (returns r)) c.fiber
result_noted held e c r is value =
    let k = known_by held e c is in
    let o = owned held e c k in
    let d = record c { result = Some r } in
    rw (is.there, same_again c.fiber) (record {
      plan = refl;
      come = set_course held e c d k (record { fiber = o.fiber; items = o.items; result = value });
    })

-- what a fiber that it has no more gives leaves it as it is
pub others_pass : (held : Held) (e fiber : ObjId) (c : Cursor) (leaves : Bool) (v : Value) → IsEnumerator held e c
    → is_same c.fiber (Some fiber) ≡ false → take_item held e fiber leaves v ≡ gives_plan held v
others_pass held e fiber c leaves v is other = rw (is.there, other) refl
