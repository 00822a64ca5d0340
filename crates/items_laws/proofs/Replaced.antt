-- `map!` of an Array.
use Rattle.std.proofs.Common.{◌≡◌, ℕ, suc, ◌<◌, ◌+◌, ◌^◌, refl, ap, subst, ◌∙◌, List, [], ◌∷◌, length, arith}
use Rattle.std.specs.Prelude.{Option, Some, None}
use Rattle.rb_value.specs.declared.value.Value.{Value}
use Rattle.rb_value.specs.declared.value.Value.TheVariants.{Obj}
use Rattle.rb_value.specs.declared.value.ObjId.{ObjId}
use Rattle.rb_value.specs.declared.core_class.CoreClass.TheVariants as class
use Rattle.def_calls.specs.Views.{an_array}
use Rattle.rb_store.specs.Held.{Held, one_more}
use Rattle.heap.specs.Changes.{with_element}
use Rattle.def_plans.specs.Plan.{Planned, gives, wanted}
use Rattle.iter_items.specs.declared.source.Source.TheVariants as source
use Rattle.iter_items.specs.Sources.{next}
use Rattle.run_rows.specs.declared.row.StarRow.TheVariants as row
use Rattle.run_rows.specs.declared.row.VisitRow.TheVariants as visit
use Rattle.core_iter.specs.declared.iteration.Iteration.TheVariants as state
use Rattle.core_iter.specs.declared.visiting.Visit.{Visit}
use Rattle.core_iter.specs.Sending.{Beaten, goes_on, with_one}
use Rattle.core_iter.specs.Stage.{Stage}
use Rattle.core_iter.specs.Visiting as visiting
use Rattle.items_laws.specs.Changed.{replaced_from}
use Rattle.items_laws.specs.Run.{Turn, Runs, Gives}
use Rattle.items_laws.specs.Items.{Visits, IsValue, Whole}
use Rattle.items_laws.specs.Lists.{alone}
use Rattle.items_laws.proofs.Reading.{counted}
use Rattle.items_laws.proofs.Visits.{visits_none, visits_more}
use Rattle.items_laws.proofs.Walks.{Walk, Walks, Called, Done, Goes, plan_at, walks, one_same}
use Rattle.items_laws.proofs.Small.{from_first, none_some, some_none}

-- where the walk stays at the element until its answer comes

abbrev pub stay_by : Held → Visit → Option Value → Beaten Visit
stay_by held w None = record { beat = None; state = w; held = held }
stay_by held w (Some v) = record { beat = Some (with_one w.block v); state = w; held = held }

abbrev pub stay : Held → Visit → Beaten Visit
stay held w = stay_by held w (visiting.element held.store w)

abbrev pub replacing : Walk Visit
replacing = record {
  fits = λ w. Unit {0};
  as_state = λ w. state.Replacing w;
  beat = stay;
  later = λ held w a. visiting.passed w;
  left = visiting.replaced;
  ending = λ w. Obj w.array;
}

pub plan_is : (held : Held) (w : Visit) (o : Option Value)
    → visiting.replace_at held w o ≡ goes_on (λ w. state.Replacing w) (Obj w.array) (stay_by held w o)
plan_is held w None = refl
plan_is held w (Some v) = refl

pub replacing_goes : Goes replacing
replacing_goes = record {
  goes = λ h w a p f e. e ∙ plan_is (visiting.replaced h w a) (visiting.passed w)
      (visiting.element (visiting.replaced h w a).store (visiting.passed w));
  beats = λ h w f. tt;
  later = λ h w a f. tt;
}

abbrev ReplaceRest : List Turn → Value → Held → Type 0
ReplaceRest ts r after = (held : Held) (w : Visit) → w.place + length ts < 2 ^ 64 → Walks replacing ts held w r after
    → Visits next held (source.Elements w.array w.place) w.block Whole alone (replaced_from w.array w.place ts)
    (λ h xs. IsValue h (Obj w.array) r after)

replace_end : (held : Held) (w : Visit) (r : Value) (after : Held) (o : Option Value)
    → visiting.element held.store w ≡ o → Done replacing held w r after
    → Visits next held (source.Elements w.array w.place) w.block Whole alone [] (λ h xs. IsValue h (Obj w.array) r after)
replace_end held w r after None there d =
    visits_none next held (source.Elements w.array w.place) w.block Whole alone (λ h xs. IsValue h (Obj w.array) r after)
    there there refl
    (record { value = d.value; left = subst (λ (o : Option Value). after ≡ (stay_by held w o).held) there d.left })
replace_end held w r after (Some x) there d =
    absurd (some_none (with_one w.block x) (subst (λ (o : Option Value). (stay_by held w o).beat ≡ None) there d.none))

-- the turn with its answer in the place of the element
abbrev pub replaced_turn : Visit → Turn → Turn
replaced_turn w t = record t { held = with_element t.held w.array w.place t.answer }

replace_turn : (t : Turn) (ts : List Turn) (r : Value) (after held : Held) (w : Visit) (o : Option Value)
    → visiting.element held.store w ≡ o → ReplaceRest ts r after → w.place + suc (length ts) < 2 ^ 64
    → Called replacing held w t (Walks replacing ts (visiting.replaced t.held (stay held w).state t.answer)
    (visiting.passed (stay held w).state) r after)
    → Visits next held (source.Elements w.array w.place) w.block Whole alone (replaced_from w.array w.place (t ∷ ts))
    (λ h xs. IsValue h (Obj w.array) r after)
replace_turn t ts r after held w None there rest less c =
    absurd (none_some c.call (subst (λ (o : Option Value). (stay_by held w o).beat ≡ Some c.call) there c.there))
replace_turn t ts r after held w (Some x) there rest less c =
    let call = subst (λ (o : Option Value). (stay_by held w o).beat ≡ Some c.call) there c.there in
    let one = counted w.place (omega (arith, less)) in
    let still : one_more w.place + length ts < 2 ^ 64 = omega (arith, less, one) in
    let u = replaced_turn w t in
    let more = rest u.held (visiting.passed w) still
    (subst (λ (o : Option Value). Walks replacing ts (visiting.replaced t.held (stay_by held w o).state t.answer)
    (visiting.passed (stay_by held w o).state) r after) there c.rest) in
    let later = replaced_from w.array (w.place + 1) ts in
    visits_more next held (source.Elements w.array w.place) w.block Whole alone alone u later x (x ∷ [])
    (λ h xs. IsValue h (Obj w.array) r after) (λ h xs. IsValue h (Obj w.array) r after) there
    (c.called ∙ one_same w.block x c.call call)
    (subst (λ (o : Option Value). t.wanted.held ≡ (stay_by held w o).held) there c.asked)
    (subst (λ (n : ℕ). Visits next u.held (source.Elements w.array (one_more w.place)) w.block Whole alone
    (replaced_from w.array n ts) (λ h xs. IsValue h (Obj w.array) r after)) one more)
    (λ NoneLeft e. e) (λ xs. refl) (λ h xs is. is)

replace_course : (ts : List Turn) (r : Value) (after : Held) → ReplaceRest ts r after
replace_course [] r after = λ held w less d. replace_end held w r after (visiting.element held.store w) refl d
replace_course (t ∷ ts) r after = λ held w less c.
    replace_turn t ts r after held w (visiting.element held.store w) refl (replace_course ts r after) less c

pub elements_replaced : (held after : Held) (recv v : Value) (a b : ObjId) (ts : List Turn) → length ts < 2 ^ 64
    → an_array held.store.objects recv ≡ Some a
    → Gives (row.Visit visit.MapInPlace) held recv [] (Some b) ts v after
    → Visits next held (source.Elements a 0) b Whole alone (replaced_from a 0 ts) (λ h items. IsValue h (Obj a) v after)
elements_replaced held after recv v a b ts less there run =
    let w : Visit = record { array = a; place = 0; block = b } in
    let first : run.first ≡ plan_at replacing held w = run.starts
    ∙ ap (λ (o : Option ObjId). wanted held class.Array recv o
    (λ x. visiting.begun visit.MapInPlace held (record { array = x; place = 0; block = b }))) there
    ∙ plan_is held w (visiting.element held.store w) in
    replace_course ts v after held w (from_first (length ts) less) (walks replacing replacing_goes ts held w v after tt
    (subst (λ (q : Planned Stage). Runs q ts (gives after v)) first run.runs))
