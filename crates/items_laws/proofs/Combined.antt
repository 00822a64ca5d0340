-- `inject` by the name of a method.
use Rattle.std.proofs.Common.{◌≡◌, refl, ap, subst, ◌∙◌, List, [], ◌∷◌}
use Rattle.std.specs.Prelude.{pos, Bool, false, ◌&&◌, Option, Some, None, Result, Ok}
use Rattle.rb_value.specs.declared.value.Value.{Value}
use Rattle.rb_value.specs.declared.value.Value.TheVariants.{Int}
use Rattle.rb_value.specs.declared.value.ObjId.{ObjId}
use Rattle.rb_value.specs.declared.value.SymId.{SymId}
use Rattle.def_core.specs.declared.cause.Cause.{Cause}
use Rattle.rb_store.specs.Held.{Held}
use Rattle.core_calls.specs.Checks.{name_in}
use Rattle.iter_items.specs.declared.row.Task.{Task}
use Rattle.iter_items.specs.declared.row.Task.TheVariants as task
use Rattle.iter_items.specs.declared.source.Source.{Source}
use Rattle.iter_items.specs.declared.visit.Visit.{Visit}
use Rattle.iter_items.specs.Asking.{visited}
use Rattle.iter_items.specs.Checks.{arguments, with_name}
use Rattle.iter_items.specs.Driving.{WantsOf, Begins, begins, is_count, same_value, visit_of}
use Rattle.iter_items.specs.Sources.{next}
use Rattle.iter_items.specs.Stage as over_items
use Rattle.def_plans.specs.Plan.{Planned}
use Rattle.core_iter.specs.Stage.{Stage}
use Rattle.items_laws.specs.Run.{Turn}
use Rattle.items_laws.specs.Items.{IsRunBy}
use Rattle.items_laws.specs.Asked.{Replies, unasked, nil_asked, told, asked, Combines, CombinesFirst, with_name_of}
use Rattle.items_laws.specs.Cut.{IsLeftBy}
use Rattle.items_laws.specs.CutAsked.{CutsCombining, CutsCombiningFirst, IsUnreplied, TotalsOff, in_the_reply, one_told}
use Rattle.items_laws.specs.Sums.{Told, at_once, when_asked, Sums, itself, no_item, one_item, plus, with_plus}
use Rattle.items_laws.proofs.Asking.{Shape, Method, Course, none_left, one_more, between, coursed}
use Rattle.items_laws.proofs.Begun.{begun_by}
use Rattle.items_laws.proofs.Cut.{LeavingBy, leaving_by}
use Rattle.items_laws.proofs.CutVisits.{Cutting, cut_off, has_replied, never_replied}
use Rattle.items_laws.proofs.Firsts.{next_same}
use Rattle.items_laws.proofs.Inversion.{begun}
use Rattle.items_laws.proofs.Small.{not_both}

-- what came so far is asked with each item, and the reply comes so far then

abbrev folding : Task → Option ObjId → SymId → Shape Value
folding t block name = record {
  task = t;
  block = block;
  name = name;
  value = λ x. Some x;
  tally = λ x. 0;
  asked = λ x i. x;
  argument = λ x i. i;
  step = λ x a. a;
  ending = λ x. x;
}

abbrev combining : Option ObjId → SymId → Shape Value
combining block name = folding task.Inject block name

combines : (block : Option ObjId) (name : SymId) → Method (combining block name)
combines block name = record {
  forwards = refl;
  asks = λ held x v. refl;
  wants = λ held x v i. refl;
  hears = λ held x v a. refl;
  ends = λ held x v w u later e. e;
}

-- where nothing is known beforehand
told_of : (known : Bool) (name : SymId) (held : Held) (x y : Value) (ts : List Turn) (a : Value) (after : Held)
    → known ≡ false → Replies known name held x (y ∷ []) ts a after → Told name held x y ts a after
told_of known name held x y ts a after e (unasked h so same) = absurd (not_both known so e)
told_of known name held x y ts a after e (nil_asked t so same is) = absurd (not_both known so e)
told_of known name held x y ts a after e (told b h untrue once) = at_once h b once
told_of known name held x y ts a after e (asked t same is) = when_asked t same is

sums_of : (block : Option ObjId) (name : SymId) (held : Held) (s : Source) (x : Value) (ts : List Turn) (r : Value)
    (after : Held) → Course (combining block name) held s x ts r after → Sums name None held s x ts r after
sums_of block name held s x ts r after (none_left h u y none) = no_item h u y none
sums_of block name held s x ts r after (one_more h k l u y i a z ws us there replies rest) =
    one_item h (next h u).held k l u y i i a z [] ws us there itself
    (told_of false name (next h u).held y i ws a k refl replies)
    (sums_of block name k (next h u).source a us z l rest)

pub combined_from : (held after : Held) (recv first n v : Value) (name : SymId) (s : Source) (block : Option ObjId)
    (ts : List Turn) → (name_in held.store n).name ≡ Ok name
    → IsRunBy task.Inject held recv s (first ∷ n ∷ []) block ts v after
    → Combines name (with_name_of n held) s first ts v after
combined_from held after recv first n v name s block ts named is =
    let st = begun_by task.Inject held recv s (first ∷ n ∷ []) block (Some first) (Some name) 0 ts v after
    (ap (λ (o : Result SymId Cause). with_name (Some first) o) named) is in
    record {
      begun = st.begun;
      same = st.same;
      sums = sums_of block name st.begun s first ts v after (coursed (combining block name) (combines block name) ts v after
          st.begun (visit_of task.Inject recv s None (arguments (Some first) (Some name) 0) block) first st.first
          st.begins st.runs);
    }

-- where it begins with its first item

abbrev first_visit : Value → SymId → Source → Visit
first_visit recv name s = visit_of task.Inject recv s None (arguments None (Some name) 0) None

abbrev behind_first : Held → Source → Value → Visit → Visit
behind_first held s first v = record v { value = Some first; source = (next held s).source }

begins_behind : (held : Held) (recv : Value) (name : SymId) (s : Source) (first : Value) (p : Planned over_items.Stage)
    → (next held s).item ≡ Some first → Begins held (first_visit recv name s) p
    → Begins (next held s).held (between (combining None name) first (behind_first held s first (first_visit recv name s))) p
begins_behind held recv name s first p there beginning =
    let v = first_visit recv name s in
    let g = begun held v p beginning in
    begins (next held s).held g.later (behind_first held s first v) g.visit g.wish p
    (subst (λ (o : Option Value).
    WantsOf (visited (next held s).held (record v { value = o; source = (next held s).source })) g.wish g.visit g.later)
    there g.wants) g.comes

pub combined : (held after : Held) (recv first n v : Value) (name : SymId) (s : Source) (ts : List Turn)
    → (name_in held.store n).name ≡ Ok name → (next (with_name_of n held) s).item ≡ Some first
    → IsRunBy task.Inject held recv s (n ∷ []) None ts v after
    → CombinesFirst name (with_name_of n held) s first ts v after
combined held after recv first n v name s ts named there is =
    let st = begun_by task.Inject held recv s (n ∷ []) None None (Some name) 0 ts v after
    (ap (λ (o : Result SymId Cause). with_name None o) named) is in
    let item = next_same st.begun (with_name_of n held) s st.same ∙ there in
    let k = (next st.begun s).held in
    let u = behind_first st.begun s first (first_visit recv name s) in
    record {
      begun = st.begun;
      same = st.same;
      there = item;
      sums = sums_of None name k (next st.begun s).source first ts v after
          (coursed (combining None name) (combines None name) ts v after k u first st.first
          (begins_behind st.begun recv name s first st.first item st.begins) st.runs);
    }

-- Where what came so far never replies.

-- `sum` without a block
adds : (name : SymId) → Method (folding task.Sum None name)
adds name = record {
  forwards = refl;
  asks = λ held x v. refl;
  wants = λ held x v i. refl;
  hears = λ held x v a. refl;
  ends = λ held x v w u later e. e;
}

totals_of : (t : Task) (block : Option ObjId) (name : SymId) → is_count t ≡ false → (held : Held) (s : Source)
    (x : Value) (ts : List Turn) (last : Planned Stage) → Cutting (folding t block name) held s x ts last
    → TotalsOff name held s x ts last
totals_of t block name other held s x ts last (never_replied h u y i q there lost) =
    in_the_reply h u y i q there
    (subst (λ (c : Bool). IsUnreplied (c && same_value y i) name (next h u).held y (i ∷ []) q) other lost)
totals_of t block name other held s x ts last (has_replied h k u y i a ws us q there replies rest) =
    one_told h k u y i a ws us q there
    (told_of (is_count t && same_value y i) name (next h u).held y i ws a k
    (ap (λ (c : Bool). c && same_value y i) other) replies)
    (totals_of t block name other k (next h u).source a us q rest)

pub combining_cut : (held : Held) (recv first n : Value) (name : SymId) (s : Source) (block : Option ObjId)
    (ts : List Turn) (last : Planned Stage) → (name_in held.store n).name ≡ Ok name
    → IsLeftBy task.Inject held recv s (first ∷ n ∷ []) block ts last
    → CutsCombining name (with_name_of n held) s first ts last
combining_cut held recv first n name s block ts last named is =
    let l = leaving_by task.Inject held recv s (first ∷ n ∷ []) (Some first) (Some name) 0 block ts last
    (ap (λ (o : Result SymId Cause). with_name (Some first) o) named) is in
    record {
      begun = l.start.begun;
      same = l.start.same;
      totals = totals_of task.Inject block name refl l.start.begun s first ts last (cut_off (combining block name)
          (combines block name) ts last l.stage l.waits l.start.begun
          (visit_of task.Inject recv s None (arguments (Some first) (Some name) 0) block) first l.start.first l.start.begins
          l.start.runs);
    }

pub combining_first_cut : (held : Held) (recv first n : Value) (name : SymId) (s : Source) (ts : List Turn)
    (last : Planned Stage) → (name_in held.store n).name ≡ Ok name → (next (with_name_of n held) s).item ≡ Some first
    → IsLeftBy task.Inject held recv s (n ∷ []) None ts last
    → CutsCombiningFirst name (with_name_of n held) s first ts last
combining_first_cut held recv first n name s ts last named there is =
    let l = leaving_by task.Inject held recv s (n ∷ []) None (Some name) 0 None ts last
    (ap (λ (o : Result SymId Cause). with_name None o) named) is in
    let begun = l.start.begun in
    let item = next_same begun (with_name_of n held) s l.start.same ∙ there in
    let u = behind_first begun s first (first_visit recv name s) in
    record {
      begun = begun;
      same = l.start.same;
      there = item;
      totals = totals_of task.Inject None name refl (next begun s).held (next begun s).source first ts last
          (cut_off (combining None name) (combines None name) ts last l.stage l.waits (next begun s).held u first
          l.start.first (begins_behind begun recv name s first l.start.first item l.start.begins) l.start.runs);
    }

of_sum : (held : Held) (recv : Value) (s : Source) (x : Value) (ts : List Turn) (last : Planned Stage)
    → LeavingBy task.Sum (with_plus held) recv s (Some x) (Some (plus held)) 0 None ts last
    → CutsCombining (plus held) (with_plus held) s x ts last
of_sum held recv s x ts last l = record {
  begun = l.start.begun;
  same = l.start.same;
  totals = totals_of task.Sum None (plus held) refl l.start.begun s x ts last (cut_off (folding task.Sum None (plus held))
      (adds (plus held)) ts last l.stage l.waits l.start.begun
      (visit_of task.Sum recv s None (arguments (Some x) (Some (plus held)) 0) None) x l.start.first l.start.begins
      l.start.runs);
}

pub adding_cut : (held : Held) (recv : Value) (s : Source) (ts : List Turn) (last : Planned Stage)
    → IsLeftBy task.Sum held recv s [] None ts last
    → CutsCombining (plus held) (with_plus held) s (Int (pos 0)) ts last
adding_cut held recv s ts last is = of_sum held recv s (Int (pos 0)) ts last
    (leaving_by task.Sum held recv s [] (Some (Int (pos 0))) (Some (plus held)) 0 None ts last refl is)

pub adding_cut_from : (held : Held) (recv first : Value) (s : Source) (ts : List Turn) (last : Planned Stage)
    → IsLeftBy task.Sum held recv s (first ∷ []) None ts last
    → CutsCombining (plus held) (with_plus held) s first ts last
adding_cut_from held recv first s ts last is = of_sum held recv s first ts last
    (leaving_by task.Sum held recv s (first ∷ []) (Some first) (Some (plus held)) 0 None ts last refl is)
