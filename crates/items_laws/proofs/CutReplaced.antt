-- `map!` of an Array, where the block never answers the last call.
use Rattle.std.proofs.Common.{◌≡◌, ℕ, ◌<◌, ◌+◌, ◌^◌, refl, ap, subst, ◌∙◌, List, [], ◌∷◌, length, arith}
use Rattle.std.specs.Prelude.{Option, Some, None}
use Rattle.rb_value.specs.declared.value.Value.{Value}
use Rattle.rb_value.specs.declared.value.ObjId.{ObjId}
use Rattle.rb_value.specs.declared.core_class.CoreClass.TheVariants as class
use Rattle.def_calls.specs.Views.{an_array}
use Rattle.rb_store.specs.Held.{Held, one_more}
use Rattle.def_plans.specs.Plan.{Planned, wanted}
use Rattle.iter_items.specs.declared.source.Source.TheVariants as source
use Rattle.iter_items.specs.Sources.{next}
use Rattle.run_rows.specs.declared.row.StarRow.TheVariants as row
use Rattle.run_rows.specs.declared.row.VisitRow.TheVariants as visit
use Rattle.core_iter.specs.declared.visiting.Visit.{Visit}
use Rattle.core_iter.specs.Rows.{Starts}
use Rattle.core_iter.specs.Stage.{Stage}
use Rattle.core_iter.specs.Visiting as visiting
use Rattle.items_laws.specs.Changed.{replaced_from}
use Rattle.items_laws.specs.Run.{Turn, Runs, waiting}
use Rattle.items_laws.specs.Lists.{alone}
use Rattle.items_laws.specs.Cut.{Cut}
use Rattle.items_laws.proofs.CutWalks.{CutEnd, CutWalks, cut_walks, cut_none, cut_more}
use Rattle.items_laws.proofs.Reading.{counted}
use Rattle.items_laws.proofs.Replaced.{plan_is, replaced_turn, replacing, replacing_goes, stay, stay_by}
use Rattle.items_laws.proofs.Small.{from_first, none_some}
use Rattle.items_laws.proofs.Walks.{Called, plan_at, one_same}

abbrev CutFrom : List Turn → Held → Visit → Planned Stage → Type 0
CutFrom ts held w last = w.place + length ts < 2 ^ 64
    → Cut next held (source.Elements w.array w.place) w.block alone (replaced_from w.array w.place ts) last

replace_last : (held : Held) (w : Visit) (last : Planned Stage) (o : Option Value) → visiting.element held.store w ≡ o
    → CutEnd replacing held w last → CutFrom [] held w last
replace_last held w last None there c =
    absurd (none_some c.call (subst (λ (o : Option Value). (stay_by held w o).beat ≡ Some c.call) there c.there))
replace_last held w last (Some x) there c = λ less.
    let call = subst (λ (o : Option Value). (stay_by held w o).beat ≡ Some c.call) there c.there in
    cut_none next held (source.Elements w.array w.place) w.block x last there (c.called ∙ one_same w.block x c.call call)
    (subst (λ (o : Option Value). last.held ≡ (stay_by held w o).held) there c.left)

replace_on : (t : Turn) (ts : List Turn) (held : Held) (w : Visit) (last : Planned Stage) (o : Option Value)
    → visiting.element held.store w ≡ o
    → ((h : Held) (u : Visit) → CutWalks replacing ts h u last → CutFrom ts h u last)
    → Called replacing held w t (CutWalks replacing ts (visiting.replaced t.held (stay held w).state t.answer)
    (visiting.passed (stay held w).state) last)
    → CutFrom (t ∷ ts) held w last
replace_on t ts held w last None there rest c =
    absurd (none_some c.call (subst (λ (o : Option Value). (stay_by held w o).beat ≡ Some c.call) there c.there))
replace_on t ts held w last (Some x) there rest c = λ less.
    let call = subst (λ (o : Option Value). (stay_by held w o).beat ≡ Some c.call) there c.there in
    let one = counted w.place (omega (arith, less)) in
    let still : one_more w.place + length ts < 2 ^ 64 = omega (arith, less, one) in
    let u = replaced_turn w t in
    let more = rest u.held (visiting.passed w)
    (subst (λ (o : Option Value). CutWalks replacing ts (visiting.replaced t.held (stay_by held w o).state t.answer)
    (visiting.passed (stay_by held w o).state) last) there c.rest) still in
    cut_more next held (source.Elements w.array w.place) w.block u (replaced_from w.array (w.place + 1) ts) x last there
    (c.called ∙ one_same w.block x c.call call)
    (subst (λ (o : Option Value). t.wanted.held ≡ (stay_by held w o).held) there c.asked)
    (subst (λ (n : ℕ). Cut next u.held (source.Elements w.array (one_more w.place)) w.block alone
    (replaced_from w.array n ts) last) one more)

replace_cut : (ts : List Turn) (held : Held) (w : Visit) (last : Planned Stage) → CutWalks replacing ts held w last
    → CutFrom ts held w last
replace_cut [] held w last c = replace_last held w last (visiting.element held.store w) refl c
replace_cut (t ∷ ts) held w last c = replace_on t ts held w last (visiting.element held.store w) refl
    (λ h u k. replace_cut ts h u last k) c

pub replacing_left : (held : Held) (recv : Value) (a b : ObjId) (ts : List Turn) (first last : Planned Stage)
    (stage : Stage) → length ts < 2 ^ 64 → an_array held.store.objects recv ≡ Some a
    → Starts (row.Visit visit.MapInPlace) held recv [] (Some b) first → Runs first ts last
    → waiting last.plan ≡ Some stage
    → Cut next held (source.Elements a 0) b alone (replaced_from a 0 ts) last
replacing_left held recv a b ts first last stage less array starts runs waits =
    let w : Visit = record { array = a; place = 0; block = b } in
    let same : first ≡ plan_at replacing held w = starts
    ∙ ap (λ (o : Option ObjId). wanted held class.Array recv o
    (λ x. visiting.begun visit.MapInPlace held (record { array = x; place = 0; block = b }))) array
    ∙ plan_is held w (visiting.element held.store w) in
    replace_cut ts held w last (cut_walks replacing replacing_goes ts last stage waits held w tt
    (subst (λ (q : Planned Stage). Runs q ts last) same runs)) (from_first (length ts) less)
