-- `count` of a value, and of all items.
use Rattle.std.proofs.Common.{◌≡◌, ℕ, suc, ◌<◌, ◌+◌, ◌-◌, ◌^◌, refl, sym, ap, subst, ◌∙◌, List, [], ◌∷◌, length}
use Rattle.std.specs.Prelude.{pos, min, codes, is_none, Bool, true, false, ◌&&◌, if◌then◌else◌, Option, Some, None}
use Rattle.rb_value.specs.declared.value.Value.{Value}
use Rattle.rb_value.specs.declared.value.Value.TheVariants.{Int}
use Rattle.rb_value.specs.declared.value.ObjId.{ObjId}
use Rattle.rb_value.specs.declared.value.SymId.{SymId}
use Rattle.rb_value.specs.Value.{is_true}
use Rattle.def_core.specs.Store.{Store}
use Rattle.rb_store.specs.Held.{Held, one_more}
use Rattle.iter_comparing.specs.Ordering.{same_value}
use Rattle.iter_items.specs.declared.row.Task.TheVariants as task
use Rattle.iter_items.specs.declared.source.Source.{Source}
use Rattle.iter_items.specs.declared.visit.Visit.{Visit}
use Rattle.iter_items.specs.declared.wish.Wish.TheVariants as wish
use Rattle.iter_items.specs.Asking.{Wished, nothing, tally_value, visited, wishes}
use Rattle.iter_items.specs.Checks.{arguments}
use Rattle.iter_items.specs.Driving.{visit_of}
use Rattle.iter_items.specs.Hearing.{onward, tallied}
use Rattle.iter_items.specs.Sources.{next, left}
use Rattle.def_plans.specs.Plan.{Planned}
use Rattle.core_iter.specs.Stage.{Stage}
use Rattle.items_laws.specs.Run.{Turn}
use Rattle.items_laws.specs.Items.{IsRunBy}
use Rattle.items_laws.specs.Asked.{Asks, none_left as no_more, one_asked, always, never, symbol, with_symbol, CountsEqual}
use Rattle.items_laws.specs.Cut.{IsLeftBy}
use Rattle.items_laws.specs.CutAsked.{AsksOff, CutsCounting, one_replied, unreplied}
use Rattle.items_laws.specs.Lists.{counted_from}
use Rattle.items_laws.proofs.Asking.{Shape, Method, Course, none_left, one_more as one_further, between, coursed}
use Rattle.items_laws.proofs.Begun.{begun_by}
use Rattle.items_laws.proofs.Counted.{number_is, one_behind, still_less, skipped, from_zero}
use Rattle.items_laws.proofs.Course.{ended}
use Rattle.items_laws.proofs.Cut.{leaving_by}
use Rattle.items_laws.proofs.CutVisits.{Cutting, cut_off, has_replied, never_replied}
use Rattle.items_laws.proofs.Inversion.{begun, comes_of}

abbrev one_more_if : Bool → ℕ → ℕ
one_more_if c n = if c then one_more n else n

abbrev counting : Option ObjId → SymId → Value → Shape ℕ
counting block name y = record {
  task = task.Count;
  block = block;
  name = name;
  value = λ n. Some y;
  tally = λ n. n;
  asked = λ n i. i;
  argument = λ n i. y;
  step = λ n a. one_more_if (is_true a) n;
  ending = λ n. Int (pos (min n (2 ^ 63 - 1)));
}

-- a value is there
asks_by : (block : Option ObjId) (y : Value) (all further : Wished)
    → (if is_none block && is_none (Some y) then all else further) ≡ further
asks_by None y all further = refl
asks_by (Some b) y all further = refl

hears_by : (block : Option ObjId) (name : SymId) (y : Value) (held : Held) (n : ℕ) (v : Visit) (c : Bool)
    → onward held (if c then tallied (between (counting block name y) n v) else between (counting block name y) n v)
    ≡ onward held (between (counting block name y) (one_more_if c n) v)
hears_by block name y held n v true = refl
hears_by block name y held n v false = refl

counts : (block : Option ObjId) (name : SymId) (y : Value) → Method (counting block name y)
counts block name y = record {
  forwards = refl;
  asks = λ held n v. let u = between (counting block name y) n v in
      asks_by block y (nothing held (record u { tally = left held.store u.source })) (visited held u);
  wants = λ held n v i. refl;
  hears = λ held n v a. hears_by block name y held n v (is_true a);
  ends = λ held n v w u later e. e;
}

-- the number of replies that are true

abbrev IsCount : ℕ → ℕ → List Value → Value → Type 0
IsCount n k replies r = n + k < 2 ^ 63 → r ≡ Int (pos (counted_from n is_true replies))

one_counted : (n : ℕ) (a : Value) (us : List Value) → is_true a ≡ true
    → counted_from n is_true (a ∷ us) ≡ counted_from (n + 1) is_true us
one_counted n a us e = rw e refl

none_counted : (n : ℕ) (a : Value) (us : List Value) → is_true a ≡ false
    → counted_from n is_true (a ∷ us) ≡ counted_from n is_true us
none_counted n a us e = rw e refl

count_by : (n k : ℕ) (a : Value) (us : List Value) (r : Value) (c : Bool) → is_true a ≡ c
    → IsCount (one_more_if c n) k us r → IsCount n (suc k) (a ∷ us) r
count_by n k a us r true e is = λ less.
    subst (λ (m : ℕ). IsCount m k us r) (one_behind n k less) is (still_less n k less)
    ∙ ap (λ (m : ℕ). Int (pos m)) (sym (one_counted n a us e))
count_by n k a us r false e is = λ less.
    is (skipped n k less) ∙ ap (λ (m : ℕ). Int (pos m)) (sym (none_counted n a us e))

record CountsFrom (name : SymId) (y : Value) (n : ℕ) (held : Held) (s : Source) (ts : List Turn) (r : Value) (after : Held)
    : Type 0 where
  items : List Value
  replies : List Value
  asks : Asks same_value name next (always y) never held s ts items replies after
  count : IsCount n (length items) replies r

counts_from : (block : Option ObjId) (name : SymId) (y : Value) (held : Held) (s : Source) (n : ℕ) (ts : List Turn)
    (r : Value) (after : Held) → Course (counting block name y) held s n ts r after
    → CountsFrom name y n held s ts r after
counts_from block name y held s n ts r after (none_left h u m none) = record {
  items = [];
  replies = [];
  asks = no_more h u none;
  count = λ less. number_is m 0 less;
}
counts_from block name y held s n ts r after (one_further h k l u m i a z ws us there replies rest) =
    let c = counts_from block name y k (next h u).source (one_more_if (is_true a) m) us z l rest in
    record {
      items = i ∷ c.items;
      replies = a ∷ c.replies;
      asks = one_asked h k l u i a ws us c.items c.replies there replies refl c.asks;
      count = count_by m (length c.items) a c.replies z (is_true a) refl c.count;
    }

pub counted_equal : (held after : Held) (recv y v : Value) (s : Source) (block : Option ObjId) (ts : List Turn)
    → IsRunBy task.Count held recv s (y ∷ []) block ts v after → CountsEqual held s y ts v after
counted_equal held after recv y v s block ts is =
    let name = symbol (codes "==") held in
    let st = begun_by task.Count held recv s (y ∷ []) block (Some y) (Some name) 0 ts v after refl is in
    let c = counts_from block name y st.begun s 0 ts v after (coursed (counting block name y) (counts block name y) ts v
    after st.begun (visit_of task.Count recv s None (arguments (Some y) (Some name) 0) block) 0 st.first st.begins
    st.runs) in
    record {
      begun = st.begun;
      same = st.same;
      items = c.items;
      replies = c.replies;
      asks = c.asks;
      result = λ less. c.count (from_zero (length c.items) less);
    }

-- all items

pub counted_all : (held after : Held) (recv v : Value) (s : Source) (ts : List Turn)
    → IsRunBy task.Count held recv s [] None ts v after
    → (ts ≡ []) × (v ≡ Int (pos (min (left (with_symbol (codes "==") held).store s) (2 ^ 63 - 1))))
    × (after.store ≡ (with_symbol (codes "==") held).store)
counted_all held after recv v s ts is =
    let name = symbol (codes "==") held in
    let st = begun_by task.Count held recv s [] None None (Some name) 0 ts v after refl is in
    let u = visit_of task.Count recv s None (arguments None (Some name) 0) None in
    let m = record u { tally = left st.begun.store s } in
    let g = begun st.begun u st.first st.begins in
    let e = ended ts st.begun m (tally_value m) v after st.first
    (comes_of (wishes st.begun m (wish.Ends (tally_value m))) g.later g.visit g.wish st.first g.wants g.comes) st.runs in (
      e.0,
      e.1 ∙ ap (λ (x : Store). Int (pos (min (left x s) (2 ^ 63 - 1)))) st.same,
      ap (λ (h : Held). h.store) e.2 ∙ st.same,
    )

-- where one of them never replies

record CountsOff (name : SymId) (y : Value) (held : Held) (s : Source) (ts : List Turn) (last : Planned Stage) : Type 0 where
  items : List Value
  replies : List Value
  asks : AsksOff same_value name next (always y) never held s ts items replies last

counts_off : (block : Option ObjId) (name : SymId) (y : Value) (held : Held) (s : Source) (n : ℕ) (ts : List Turn)
    (last : Planned Stage) → Cutting (counting block name y) held s n ts last → CountsOff name y held s ts last
counts_off block name y held s n ts last (never_replied h u m i q there lost) =
    record { items = []; replies = []; asks = unreplied h u i q there lost }
counts_off block name y held s n ts last (has_replied h k u m i a ws us q there replies rest) =
    let c = counts_off block name y k (next h u).source (one_more_if (is_true a) m) us q rest in
    record {
      items = i ∷ c.items;
      replies = a ∷ c.replies;
      asks = one_replied h k u i a ws us c.items c.replies q there replies refl c.asks;
    }

pub counting_cut : (held : Held) (recv y : Value) (s : Source) (block : Option ObjId) (ts : List Turn)
    (last : Planned Stage) → IsLeftBy task.Count held recv s (y ∷ []) block ts last → CutsCounting held s y ts last
counting_cut held recv y s block ts last is =
    let name = symbol (codes "==") held in
    let l = leaving_by task.Count held recv s (y ∷ []) (Some y) (Some name) 0 block ts last refl is in
    let c = counts_off block name y l.start.begun s 0 ts last (cut_off (counting block name y) (counts block name y) ts last
    l.stage l.waits l.start.begun (visit_of task.Count recv s None (arguments (Some y) (Some name) 0) block) 0 l.start.first
    l.start.begins l.start.runs) in
    record {
      begun = l.start.begun;
      same = l.start.same;
      items = c.items;
      replies = c.replies;
      asks = c.asks;
    }
