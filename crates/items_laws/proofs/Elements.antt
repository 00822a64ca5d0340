-- `each` of an Array.
use Rattle.std.proofs.Common.{◌≡◌, refl, ap, subst, ◌∙◌, List, [], ◌∷◌}
use Rattle.std.specs.Prelude.{Option, Some, None}
use Rattle.rb_value.specs.declared.value.Value.{Value}
use Rattle.rb_value.specs.declared.value.Value.TheVariants.{Obj}
use Rattle.rb_value.specs.declared.value.ObjId.{ObjId}
use Rattle.rb_value.specs.declared.core_class.CoreClass.TheVariants as class
use Rattle.def_calls.specs.Views.{an_array}
use Rattle.rb_store.specs.Held.{Held}
use Rattle.def_plans.specs.Plan.{Planned, gives, wanted}
use Rattle.iter_items.specs.declared.source.Source.TheVariants as source
use Rattle.iter_items.specs.Sources.{next}
use Rattle.run_rows.specs.declared.row.StarRow.TheVariants as row
use Rattle.run_rows.specs.declared.row.VisitRow.TheVariants as visit
use Rattle.core_iter.specs.declared.iteration.Iteration.TheVariants as state
use Rattle.core_iter.specs.declared.visiting.Visit.{Visit}
use Rattle.core_iter.specs.Sending.{Beaten, with_one}
use Rattle.core_iter.specs.Stage.{Stage}
use Rattle.core_iter.specs.Visiting as visiting
use Rattle.items_laws.specs.Run.{Turn, Runs, Gives}
use Rattle.items_laws.specs.Items.{Visits, IsValue, Whole}
use Rattle.items_laws.specs.Lists.{alone}
use Rattle.items_laws.proofs.Visits.{visits_none, visits_more}
use Rattle.items_laws.proofs.Walks.{Walk, as_left, Walks, Called, Done, Goes, plan_at, walks, one_same}
use Rattle.items_laws.proofs.Small.{none_some, some_none}

abbrev pub elements : Walk Visit
elements = record {
  fits = λ w. Unit {0};
  as_state = λ w. state.Visiting w;
  beat = λ held w. visiting.element_beat held w;
  later = λ held w a. w;
  left = as_left;
  ending = λ w. Obj w.array;
}

pub elements_go : Goes elements
elements_go = record { goes = λ h s y p f e. e; beats = λ h s f. tt; later = λ h s a f. tt }

abbrev pub beat_by : Held → Visit → Option Value → Beaten Visit
beat_by held w o = visiting.beat_by held w o

abbrev EachRest : List Turn → Value → Held → Type 0
EachRest ts r after = (held : Held) (w : Visit) → Walks elements ts held w r after
    → Visits next held (source.Elements w.array w.place) w.block Whole alone ts
    (λ h xs. IsValue h (Obj w.array) r after)

each_end : (held : Held) (w : Visit) (r : Value) (after : Held) (o : Option Value)
    → visiting.element held.store w ≡ o → Done elements held w r after
    → Visits next held (source.Elements w.array w.place) w.block Whole alone [] (λ h xs. IsValue h (Obj w.array) r after)
each_end held w r after None there d =
    visits_none next held (source.Elements w.array w.place) w.block Whole alone (λ h xs. IsValue h (Obj w.array) r after)
    there there refl
    (record { value = d.value; left = subst (λ (o : Option Value). after ≡ (beat_by held w o).held) there d.left })
each_end held w r after (Some x) there d =
    absurd (some_none (with_one w.block x) (subst (λ (o : Option Value). (beat_by held w o).beat ≡ None) there d.none))

each_turn : (t : Turn) (ts : List Turn) (r : Value) (after held : Held) (w : Visit) (o : Option Value)
    → visiting.element held.store w ≡ o → EachRest ts r after
    → Called elements held w t (Walks elements ts t.held (visiting.element_beat held w).state r after)
    → Visits next held (source.Elements w.array w.place) w.block Whole alone (t ∷ ts)
    (λ h xs. IsValue h (Obj w.array) r after)
each_turn t ts r after held w None there rest c =
    absurd (none_some c.call (subst (λ (o : Option Value). (beat_by held w o).beat ≡ Some c.call) there c.there))
each_turn t ts r after held w (Some x) there rest c =
    let call = subst (λ (o : Option Value). (beat_by held w o).beat ≡ Some c.call) there c.there in
    let more = rest t.held (visiting.passed w)
    (subst (λ (o : Option Value). Walks elements ts t.held (beat_by held w o).state r after) there c.rest) in
    visits_more next held (source.Elements w.array w.place) w.block Whole alone alone t ts x (x ∷ [])
    (λ h xs. IsValue h (Obj w.array) r after) (λ h xs. IsValue h (Obj w.array) r after) there
    (c.called ∙ one_same w.block x c.call call)
    (subst (λ (o : Option Value). t.wanted.held ≡ (beat_by held w o).held) there c.asked) more
    (λ NoneLeft e. e) (λ xs. refl) (λ h xs is. is)

each_course : (ts : List Turn) (r : Value) (after : Held) → EachRest ts r after
each_course [] r after = λ held w d. each_end held w r after (visiting.element held.store w) refl d
each_course (t ∷ ts) r after = λ held w c.
    each_turn t ts r after held w (visiting.element held.store w) refl (each_course ts r after) c

pub each_element : (held after : Held) (recv v : Value) (a b : ObjId) (ts : List Turn)
    → an_array held.store.objects recv ≡ Some a
    → Gives (row.Visit visit.EachElement) held recv [] (Some b) ts v after
    → Visits next held (source.Elements a 0) b Whole alone ts (λ h items. IsValue h (Obj a) v after)
each_element held after recv v a b ts there run =
    let w : Visit = record { array = a; place = 0; block = b } in
    let first : run.first ≡ plan_at elements held w = run.starts
    ∙ ap (λ (o : Option ObjId). wanted held class.Array recv o
    (λ x. visiting.begun visit.EachElement held (record { array = x; place = 0; block = b }))) there in
    each_course ts v after held w (walks elements elements_go ts held w v after tt
    (subst (λ (q : Planned Stage). Runs q ts (gives after v)) first run.runs))
