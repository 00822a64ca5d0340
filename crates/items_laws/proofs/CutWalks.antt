-- Iterations that call their block again and again, and are left while it is called.
use Rattle.std.proofs.Common.{◌≡◌, refl, sym, ap, subst, ◌∙◌, List, [], ◌∷◌, ◌++◌}
use Rattle.std.specs.Prelude.{map, Option, Some, None}
use Rattle.rb_value.specs.declared.value.Value.{Value}
use Rattle.rb_value.specs.declared.value.ObjId.{ObjId}
use Rattle.rb_value.specs.declared.core_class.CoreClass.TheVariants as class
use Rattle.def_calls.specs.Views.{an_array}
use Rattle.rb_store.specs.Held.{Held}
use Rattle.core_calls.specs.declared.beat.Beat.{Beat}
use Rattle.core_calls.specs.Passing.{args_of}
use Rattle.def_plans.specs.Plan.{Planned, gives, wanted}
use Rattle.iter_items.specs.declared.source.Source.{Source}
use Rattle.iter_items.specs.declared.source.Source.TheVariants as source
use Rattle.iter_items.specs.Sources.{next}
use Rattle.run_rows.specs.declared.row.StarRow.TheVariants as row
use Rattle.run_rows.specs.declared.row.VisitRow.TheVariants as visit
use Rattle.core_iter.specs.declared.visiting.Visit.{Visit}
use Rattle.core_iter.specs.Rows.{Starts}
use Rattle.core_iter.specs.Sending.{beat_or}
use Rattle.core_iter.specs.Stage.{Stage, own}
use Rattle.core_iter.specs.Visiting as visiting
use Rattle.items_laws.specs.Run.{Turn, Runs, waiting}
use Rattle.items_laws.specs.Items.{Passing, call_of, calls_of}
use Rattle.items_laws.specs.Lists.{alone}
use Rattle.items_laws.specs.Cut.{Cut}
use Rattle.items_laws.proofs.Course.{no_turn}
use Rattle.items_laws.proofs.Elements.{elements, elements_go, beat_by}
use Rattle.items_laws.proofs.Small.{none_some, not_cons, tail_same}
use Rattle.items_laws.proofs.Walks.{Walk, Goes, Called, plan_at, called_at, one_same}

-- the call that isn't answered
pub record CutEnd {S : Type 0} (w : Walk S) (held : Held) (s : S) (last : Planned Stage) : Type 0 where
  pub call : Beat
  pub there : (w.beat held s).beat ≡ Some call
  pub called : call_of last.plan ≡ Some (call.callee, args_of call.passed)
  pub left : last.held ≡ (w.beat held s).held

abbrev pub CutWalks : {S : Type 0} → Walk S → List Turn → Held → S → Planned Stage → Type 0
CutWalks w [] held s last = CutEnd w held s last
CutWalks w (t ∷ ts) held s last = Called w held s t (CutWalks w ts (w.left t.held (w.beat held s).state t.answer)
    (w.later t.held (w.beat held s).state t.answer) last)

abbrev pub Recursion : {S : Type 0} → Walk S → List Turn → Planned Stage → Type 0
Recursion {S = S} w ts last = (held : Held) (s : S) → w.fits s → Runs (plan_at w held s) ts last → CutWalks w ts held s last

cut_at : {S : Type 0} (w : Walk S) (goes : Goes w) (ts : List Turn) (held : Held) (s : S) (last : Planned Stage)
    (stage : Stage) (o : Option Beat) → waiting last.plan ≡ Some stage
    → ((t : Turn) (us : List Turn) → ts ≡ t ∷ us → Recursion w us last)
    → w.fits s → (w.beat held s).beat ≡ o
    → Runs (beat_or (w.beat held s).held (own (w.as_state (w.beat held s).state)) (w.ending s) o) ts last
    → CutWalks w ts held s last
cut_at w goes [] held s last stage None waits rest fits there runs =
    absurd (none_some stage (ap (λ (p : Planned Stage). waiting p.plan) runs ∙ waits))
cut_at w goes (t ∷ ts) held s last stage None waits rest fits there runs = absurd (no_turn t
    (gives (w.beat held s).held (w.ending s)) (λ next. Runs next ts last) refl runs.0 runs.1)
cut_at w goes [] held s last stage (Some c) waits rest fits there runs = record {
  call = c;
  there = there;
  called = ap (λ (p : Planned Stage). call_of p.plan) (sym runs);
  left = ap (λ (p : Planned Stage). p.held) (sym runs);
}
cut_at w goes (t ∷ ts) held s last stage (Some c) waits rest fits there runs =
    called_at w goes t held s c (λ next. Runs next ts last) (CutWalks w ts (w.left t.held (w.beat held s).state t.answer)
    (w.later t.held (w.beat held s).state t.answer) last) fits there runs.0 runs.1
    (λ fit run. rest t ts refl (w.left t.held (w.beat held s).state t.answer)
    (w.later t.held (w.beat held s).state t.answer) fit run)

pub cut_walks : {S : Type 0} (w : Walk S) (goes : Goes w) (ts : List Turn) (last : Planned Stage) (stage : Stage)
    → waiting last.plan ≡ Some stage → Recursion w ts last
cut_walks w goes [] last stage waits = λ held s fits runs.
    cut_at w goes [] held s last stage (w.beat held s).beat waits (λ t us e. absurd (not_cons t us (sym e))) fits refl runs
cut_walks w goes (t ∷ ts) last stage waits = λ held s fits runs.
    cut_at w goes (t ∷ ts) held s last stage (w.beat held s).beat waits
    (λ u us e. subst (λ (xs : List Turn). Recursion w xs last) (tail_same t u ts us e)
    (cut_walks w goes ts last stage waits)) fits refl runs

-- Items that are handed on alone.

abbrev one_called : ObjId → List (List Value) → List (Option (ObjId × List Value))
one_called b xs = map (λ args. Some (b, args)) xs

pub cut_none : (pass : Passing) (held : Held) (s : Source) (b : ObjId) (x : Value) (last : Planned Stage)
    → (pass held s).item ≡ Some x → call_of last.plan ≡ Some (b, x ∷ []) → last.held ≡ (pass held s).held
    → Cut pass held s b alone [] last
cut_none pass held s b x last there called left = record {
  items = [];
  item = x;
  handed = tt;
  there = there;
  called = ap (λ (c : Option (ObjId × List Value)). c ∷ []) called;
  left = left;
}

pub cut_more : (pass : Passing) (held : Held) (s : Source) (b : ObjId) (t : Turn) (ts : List Turn) (x : Value)
    (last : Planned Stage) → (pass held s).item ≡ Some x → call_of t.wanted.plan ≡ Some (b, x ∷ [])
    → t.wanted.held ≡ (pass held s).held → Cut pass t.held (pass held s).source b alone ts last
    → Cut pass held s b alone (t ∷ ts) last
cut_more pass held s b t ts x last there called asked rest = record {
  items = x ∷ rest.items;
  item = rest.item;
  handed = (there, asked, rest.handed);
  there = rest.there;
  called = ap (λ (c : Option (ObjId × List Value)). c ∷ (calls_of ts ++ call_of last.plan ∷ [])) called
      ∙ ap (λ (cs : List (Option (ObjId × List Value))). Some (b, x ∷ []) ∷ cs) rest.called;
  left = rest.left;
}

-- `each` of an Array

abbrev EachOf : List Turn → Held → Visit → Planned Stage → Type 0
EachOf ts held w last = Cut next held (source.Elements w.array w.place) w.block alone ts last

each_last : (held : Held) (w : Visit) (last : Planned Stage) (o : Option Value) → visiting.element held.store w ≡ o
    → CutEnd elements held w last → EachOf [] held w last
each_last held w last None there c =
    absurd (none_some c.call (subst (λ (o : Option Value). (beat_by held w o).beat ≡ Some c.call) there c.there))
each_last held w last (Some x) there c =
    let call = subst (λ (o : Option Value). (beat_by held w o).beat ≡ Some c.call) there c.there in
    cut_none next held (source.Elements w.array w.place) w.block x last there (c.called ∙ one_same w.block x c.call call)
    (subst (λ (o : Option Value). last.held ≡ (beat_by held w o).held) there c.left)

each_on : (t : Turn) (ts : List Turn) (held : Held) (w : Visit) (last : Planned Stage) (o : Option Value)
    → visiting.element held.store w ≡ o
    → ((h : Held) (u : Visit) → CutWalks elements ts h u last → EachOf ts h u last)
    → Called elements held w t (CutWalks elements ts t.held (visiting.element_beat held w).state last)
    → EachOf (t ∷ ts) held w last
each_on t ts held w last None there rest c =
    absurd (none_some c.call (subst (λ (o : Option Value). (beat_by held w o).beat ≡ Some c.call) there c.there))
each_on t ts held w last (Some x) there rest c =
    let call = subst (λ (o : Option Value). (beat_by held w o).beat ≡ Some c.call) there c.there in
    cut_more next held (source.Elements w.array w.place) w.block t ts x last there
    (c.called ∙ one_same w.block x c.call call)
    (subst (λ (o : Option Value). t.wanted.held ≡ (beat_by held w o).held) there c.asked)
    (rest t.held (visiting.passed w)
    (subst (λ (o : Option Value). CutWalks elements ts t.held (beat_by held w o).state last) there c.rest))

each_cut : (ts : List Turn) (held : Held) (w : Visit) (last : Planned Stage) → CutWalks elements ts held w last
    → EachOf ts held w last
each_cut [] held w last c = each_last held w last (visiting.element held.store w) refl c
each_cut (t ∷ ts) held w last c = each_on t ts held w last (visiting.element held.store w) refl
    (λ h u k. each_cut ts h u last k) c

pub each_left : (held : Held) (recv : Value) (a b : ObjId) (ts : List Turn) (first last : Planned Stage) (stage : Stage)
    → an_array held.store.objects recv ≡ Some a → Starts (row.Visit visit.EachElement) held recv [] (Some b) first
    → Runs first ts last → waiting last.plan ≡ Some stage
    → Cut next held (source.Elements a 0) b alone ts last
each_left held recv a b ts first last stage array starts runs waits =
    let w : Visit = record { array = a; place = 0; block = b } in
    let same : first ≡ plan_at elements held w = starts
    ∙ ap (λ (o : Option ObjId). wanted held class.Array recv o
    (λ x. visiting.begun visit.EachElement held (record { array = x; place = 0; block = b }))) array in
    each_cut ts held w last (cut_walks elements elements_go ts last stage waits held w tt
    (subst (λ (q : Planned Stage). Runs q ts last) same runs))
