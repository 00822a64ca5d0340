-- Where StopIteration is raised, and where an item is asked for.
use Rattle.std.proofs.Common.{◌≡◌, List, Bool, true, false, refl, sym, ap, ◌∙◌}
use Rattle.std.specs.Prelude.{Option, Some, None}
use Rattle.rb_value.specs.declared.value.Value.{Value}
use Rattle.rb_value.specs.declared.value.ObjId.{ObjId}
use Rattle.def_core.specs.declared.cause.Cause.{Cause}
use Rattle.def_core.specs.declared.cause.Cause.TheVariants as cause
use Rattle.rb_store.specs.Held.{Held}
use Rattle.heap.specs.declared.enumerators.Cursor.{Cursor}
use Rattle.def_plans.specs.Plan.{Plan, Planned, finishes, fails, resumes}
use Rattle.iter_enumerators.specs.declared.state.EnumeratorState.{EnumeratorState}
use Rattle.iter_enumerators.specs.Items.{next_item}
use Rattle.enumerator_laws.specs.Course.{Course, held_back, gives, stops, May}
use Rattle.enumerator_laws.specs.Told.{course_by, IsEnumerator}
use Rattle.enumerator_laws.proofs.Rows.{item_passed, item_stays, end_told}
use Rattle.enumerator_laws.proofs.Begins.{item_asked}

-- an item that is held back is given
there_finishes : (held : Held) (e : ObjId) (c : Cursor) (leaves : Bool) (v : Value) → IsEnumerator held e c
    → held_back (course_by held c) ≡ Some v → (next_item held e leaves).plan ≡ finishes v
there_finishes held e c true v is there = (item_passed held e c v is there).plan
there_finishes held e c false v is there = ap (λ (p : Planned EnumeratorState). p.plan) (item_stays held e c v is there)

end_fails : (held : Held) (e : ObjId) (c : Cursor) (leaves : Bool) (r : Value) → IsEnumerator held e c
    → May (course_by held c) (stops r) → (next_item held e leaves).plan ≡ fails (cause.IterationEnd r)
end_fails held e c leaves r is may = ap (λ (p : Planned EnumeratorState). p.plan) (end_told held e c leaves r is may)

same_result : (p : Plan EnumeratorState) (q r : Value) → p ≡ fails (cause.IterationEnd q) → p ≡ fails (cause.IterationEnd r)
    → q ≡ r
same_result p q r g h = let e = sym g ∙ h in cc

stops_by : (held : Held) (e : ObjId) (c : Cursor) (leaves : Bool) (r : Value) → IsEnumerator held e c
    → (back result : Option Value) → held_back (course_by held c) ≡ back → c.result ≡ result
    → (next_item held e leaves).plan ≡ fails (cause.IterationEnd r) → May (course_by held c) (stops r)
stops_by held e c leaves r is (Some v) result b s h =
    let same = sym (there_finishes held e c leaves v is b) ∙ h in
    absurd (cc)
stops_by held e c leaves r is None (Some q) b s h =
    (b, s ∙ ap Some (same_result (next_item held e leaves).plan q r (end_fails held e c leaves q is (b, s)) h))
stops_by held e c leaves r is None None b s h =
    let asks = item_asked held e c leaves is b s in
    let same = sym asks.plan ∙ h in
    absurd (cc)

pub stops_exactly : (held : Held) (e : ObjId) (c : Cursor) (leaves : Bool) (r : Value) → IsEnumerator held e c
    → (next_item held e leaves).plan ≡ fails (cause.IterationEnd r) → May (course_by held c) (stops r)
stops_exactly held e c leaves r is h =
    stops_by held e c leaves r is (held_back (course_by held c)) c.result refl refl h

asks_by : (held : Held) (e : ObjId) (c : Cursor) (leaves : Bool) (s : EnumeratorState) (f : ObjId) (args : List Value)
    → IsEnumerator held e c
    → (back result : Option Value) → held_back (course_by held c) ≡ back → c.result ≡ result
    → (next_item held e leaves).plan ≡ resumes s f args
    → (held_back (course_by held c) ≡ None) × (c.result ≡ None)
asks_by held e c leaves s f args is (Some v) result b r h =
    let same = sym (there_finishes held e c leaves v is b) ∙ h in
    absurd (cc)
asks_by held e c leaves s f args is None (Some q) b r h =
    let same = sym (end_fails held e c leaves q is (b, r)) ∙ h in
    absurd (cc)
asks_by held e c leaves s f args is None None b r h = (b, r)

pub asks_exactly : (held : Held) (e : ObjId) (c : Cursor) (leaves : Bool) (s : EnumeratorState) (f : ObjId)
    (args : List Value) → IsEnumerator held e c → (next_item held e leaves).plan ≡ resumes s f args
    → (held_back (course_by held c) ≡ None) × (c.result ≡ None)
asks_exactly held e c leaves s f args is h =
    asks_by held e c leaves s f args is (held_back (course_by held c)) c.result refl refl h
