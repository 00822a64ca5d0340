-- `each_cons` that is left while its block is called.
use Rattle.std.proofs.Common.{◌≡◌, ℕ, suc, ◌<◌, refl, sym, ap, subst, ◌∙◌, List, [], ◌∷◌, ◌++◌, length, drop}
use Rattle.std.specs.Prelude.{map, nat_eq, Bool, true, false, Option, Some, None, Result, Ok}
use Rattle.std.proofs.lemmas.Bool.{eqb-true}
use Rattle.rb_value.specs.declared.value.Value.{Value}
use Rattle.rb_value.specs.declared.value.ObjId.{ObjId}
use Rattle.def_core.specs.declared.cause.Cause.{Cause}
use Rattle.heap.specs.Made.{array_given, with_array}
use Rattle.rb_store.specs.Held.{Held}
use Rattle.core_calls.specs.declared.beat.Passed.TheVariants.{One}
use Rattle.core_calls.specs.Checks.{integer}
use Rattle.def_plans.specs.Plan.{Planned}
use Rattle.iter_items.specs.declared.row.Task.TheVariants as task
use Rattle.iter_items.specs.declared.source.Source.{Source}
use Rattle.iter_items.specs.declared.visit.Visit.{Visit}
use Rattle.iter_items.specs.declared.wish.Wish.{Wish}
use Rattle.iter_items.specs.declared.wish.Wish.TheVariants as wish
use Rattle.iter_items.specs.Asking.{Taken, taken, nothing, slid, slid_by, window_called, wishes}
use Rattle.iter_items.specs.Checks.{arguments, size_of, with_size}
use Rattle.iter_items.specs.Driving.{WantsOf, Comes, at_site, Begins, visit_of}
use Rattle.iter_items.specs.Sources.{next}
use Rattle.iter_items.specs.Stage as over_items
use Rattle.core_iter.specs.Stage.{Stage}
use Rattle.items_laws.specs.Run.{Turn, Runs, waiting}
use Rattle.items_laws.specs.Items.{call_of, calls_of}
use Rattle.items_laws.specs.Cut.{IsLeft, SlidesOff, CutsNeighbours}
use Rattle.items_laws.specs.Neighbours.{neighbours, items_in, heaps_in, arrays_given, arrays_made, heaps_behind}
use Rattle.items_laws.proofs.Cut.{dead, stands, leaving}
use Rattle.items_laws.proofs.Inversion.{begun, Calling, comes_of}
use Rattle.items_laws.proofs.Slid.{opened_by, group_calls, windowed, lifted, calls_with, with_rest, wanted_by, first_by, neighbours_more, neighbours_behind, as_long, not_empty, size_some}
use Rattle.items_laws.proofs.Small.{not_cons, tail_same}

-- The windows behind one.

record SlidOff (n : ℕ) (w : List Value) (s : Source) (b : ObjId) (held : Held) (ts : List Turn) (last : Planned Stage)
    : Type 0 where
  later : List Value
  came : items_in s (held ∷ heaps_behind ts) ≡ map Some later
  called : calls_of ts ++ call_of last.plan ∷ [] ≡ calls_with b (arrays_given
      (neighbours n (suc (length ts)) (drop 1 w ++ later)) (heaps_in s (held ∷ heaps_behind ts)))
  made : map (λ t. t.wanted.held) ts ++ last.held ∷ [] ≡ arrays_made
      (neighbours n (suc (length ts)) (drop 1 w ++ later)) (heaps_in s (held ∷ heaps_behind ts))

off_last : (n : ℕ) (w : List Value) (s : Source) (b : ObjId) (held : Held) (x : Value) (last : Planned Stage) → 0 < n
    → length (slid w x) ≡ n → (next held s).item ≡ Some x
    → call_of last.plan ≡ Some (b, array_given (next held s).held.store (slid w x) ∷ [])
    → last.held ≡ with_array (next held s).held (slid w x) → SlidOff n w s b held [] last
off_last n w s b held x last some long there call left =
    let k = (next held s).held in
    let windows = neighbours_behind n 0 w [] x some long in
    record {
      later = x ∷ [];
      came = ap (λ (o : Option Value). o ∷ []) there;
      called = ap (λ (c : Option (ObjId × List Value)). c ∷ []) call
          ∙ ap (λ (lists : List (List Value)). calls_with b (arrays_given lists (k ∷ []))) (sym windows);
      made = ap (λ (h : Held). h ∷ []) left
          ∙ ap (λ (lists : List (List Value)). arrays_made lists (k ∷ [])) (sym windows);
    }

off_on : (n : ℕ) (w : List Value) (s : Source) (b : ObjId) (held : Held) (t : Turn) (ts : List Turn) (x : Value)
    (last : Planned Stage) → 0 < n → length (slid w x) ≡ n → (next held s).item ≡ Some x
    → call_of t.wanted.plan ≡ Some (b, array_given (next held s).held.store (slid w x) ∷ [])
    → t.wanted.held ≡ with_array (next held s).held (slid w x)
    → SlidOff n (slid w x) (next held s).source b t.held ts last → SlidOff n w s b held (t ∷ ts) last
off_on n w s b held t ts x last some long there call asked rest =
    let k = (next held s).held in
    let hs = heaps_in (next held s).source (t.held ∷ heaps_behind ts) in
    let windows = neighbours_behind n (suc (length ts)) w rest.later x some long in
    record {
      later = x ∷ rest.later;
      came = ap (λ (o : Option Value). o ∷ items_in (next held s).source (t.held ∷ heaps_behind ts)) there
          ∙ ap (λ (os : List (Option Value)). Some x ∷ os) rest.came;
      called = ap (λ (c : Option (ObjId × List Value)). c ∷ (calls_of ts ++ call_of last.plan ∷ [])) call
          ∙ ap (λ (cs : List (Option (ObjId × List Value))). Some (b, array_given k.store (slid w x) ∷ []) ∷ cs) rest.called
          ∙ ap (λ (lists : List (List Value)). calls_with b (arrays_given lists (k ∷ hs))) (sym windows);
      made = ap (λ (h : Held). h ∷ (map (λ t. t.wanted.held) ts ++ last.held ∷ [])) asked
          ∙ ap (λ (l : List Held). with_array k (slid w x) ∷ l) rest.made
          ∙ ap (λ (lists : List (List Value)). arrays_made lists (k ∷ hs)) (sym windows);
    }

abbrev Recursion : ObjId → ℕ → List Turn → Planned Stage → Type 0
Recursion b n ts last = (held : Held) (w : List Value) (v : Visit) (p : Planned over_items.Stage) → length w ≡ n
    → Begins held (windowed b n w v) p → Runs (lifted p) ts last → SlidOff n w v.source b held ts last

abbrev Behind : ObjId → ℕ → List Turn → Planned Stage → Type 0
Behind b n ts last = (t : Turn) (us : List Turn) → ts ≡ t ∷ us → Recursion b n us last

-- a plan that comes where no window is left ends
no_window : (b : ObjId) (n : ℕ) (w : List Value) (k : Held) (v : Visit) (ts : List Turn) (last : Planned Stage)
    (stage : Stage) → waiting last.plan ≡ Some stage → (wanted : Wish) (u : Visit) (later : Held)
    (p : Planned over_items.Stage) → WantsOf (nothing k (windowed b n w v)) wanted u later → Comes later u wanted p
    → Runs (lifted p) ts last → ⊥
no_window b n w k v ts last stage waits wanted u later p wants comes runs =
    let m = windowed b n w v in
    dead (lifted p) last ts stage (stands k m (wish.Ends v.receiver) p tt
    (comes_of (wishes k m (wish.Ends v.receiver)) later u wanted p wants comes)) waits runs

-- by the call of the next window
by_call : (b : ObjId) (n : ℕ) (ts : List Turn) (last : Planned Stage) → 0 < n → Behind b n ts last → (held : Held)
    (w : List Value) (v : Visit) (x : Value) (p : Planned over_items.Stage) → length (slid w x) ≡ n
    → (next held v.source).item ≡ Some x
    → Calling (with_array (next held v.source).held (slid w x))
    (windowed b n (slid w x) (with_rest v (next held v.source).source))
    (record { callee = b; passed = One (array_given (next held v.source).held.store (slid w x)) }) p
    → Runs (lifted p) ts last → SlidOff n w v.source b held ts last
by_call b n [] last some rest held w v x p long there c runs =
    let same = sym (ap lifted c.same) ∙ runs in
    off_last n w v.source b held x last some long there (ap (λ (q : Planned Stage). call_of q.plan) (sym same))
    (ap (λ (q : Planned Stage). q.held) (sym same))
by_call b n (t ∷ ts) last some rest held w v x p long there c runs =
    let m = with_rest v (next held v.source).source in
    let o = opened_by b n (slid w x) (next held v.source).held m t ts last c.site (runs.0 ∙ ap lifted c.same) runs.1 in
    subst (λ (us : List Turn). SlidOff n w v.source b held us last) (sym o.same)
    (off_on n w v.source b held o.turn o.further x last some long there o.called o.asked
    (rest o.turn o.further o.same o.turn.held (slid w x) (at_site m o.site) o.next long o.begins_so o.runs))

by_item : (b : ObjId) (n : ℕ) (ts : List Turn) (last : Planned Stage) (stage : Stage) → waiting last.plan ≡ Some stage
    → 0 < n → Behind b n ts last → (held : Held) (w : List Value) (v : Visit) (o : Option Value) (wanted : Wish)
    (u : Visit) (later : Held) (p : Planned over_items.Stage) → length w ≡ n → (next held v.source).item ≡ o
    → WantsOf (window_called (slid_by (windowed b n w v) (next held v.source) o)) wanted u later → Comes later u wanted p
    → Runs (lifted p) ts last → SlidOff n w v.source b held ts last
by_item b n ts last stage waits some rest held w v None wanted u later p long there wants comes runs =
    absurd (no_window b n w (next held v.source).held (with_rest v (next held v.source).source) ts last stage waits wanted u
    later p wants comes runs)
by_item b n ts last stage waits some rest held w v (Some x) wanted u later p long there wants comes runs =
    by_call b n ts last some rest held w v x p (as_long n w x some long) there
    (group_calls b n (slid w x) (next held v.source).held (with_rest v (next held v.source).source) wanted u later p wants
    comes) runs

off_step : (b : ObjId) (n : ℕ) (ts : List Turn) (last : Planned Stage) (stage : Stage) → waiting last.plan ≡ Some stage
    → 0 < n → Behind b n ts last → Recursion b n ts last
off_step b n ts last stage waits some rest = λ held w v p long comes runs.
    let g = begun held (windowed b n w v) p comes in
    by_item b n ts last stage waits some rest held w v (next held v.source).item g.wish g.visit g.later p long refl
    (subst (λ (c : Bool). WantsOf (window_called (wanted_by c held (windowed b n w v))) g.wish g.visit g.later)
    (not_empty n w some long) g.wants) g.comes runs

off_course : (b : ObjId) (n : ℕ) (ts : List Turn) (last : Planned Stage) (stage : Stage) → waiting last.plan ≡ Some stage
    → 0 < n → Recursion b n ts last
off_course b n [] last stage waits some =
    off_step b n [] last stage waits some (λ t us e. absurd (not_cons t us (sym e)))
off_course b n (t ∷ ts) last stage waits some = off_step b n (t ∷ ts) last stage waits some
    (λ u us e. subst (λ (xs : List Turn). Recursion b n xs last) (tail_same t u ts us e)
    (off_course b n ts last stage waits some))

-- The first window.

first_last : (b : ObjId) (n : ℕ) (first : Taken) (last : Planned Stage) → 0 < n → length first.items ≡ n
    → call_of last.plan ≡ Some (b, array_given first.held.store first.items ∷ [])
    → last.held ≡ with_array first.held first.items → SlidesOff n first b [] last
first_last b n first last some long call left =
    let windows = neighbours_more n 0 first.items [] some long in
    record {
      later = [];
      long = long;
      came = refl;
      called = ap (λ (c : Option (ObjId × List Value)). c ∷ []) call
          ∙ ap (λ (lists : List (List Value)). calls_with b (arrays_given lists (first.held ∷ []))) (sym windows);
      made = ap (λ (h : Held). h ∷ []) left
          ∙ ap (λ (lists : List (List Value)). arrays_made lists (first.held ∷ [])) (sym windows);
    }

first_on : (b : ObjId) (n : ℕ) (first : Taken) (t : Turn) (ts : List Turn) (last : Planned Stage) → 0 < n
    → length first.items ≡ n → call_of t.wanted.plan ≡ Some (b, array_given first.held.store first.items ∷ [])
    → t.wanted.held ≡ with_array first.held first.items → SlidOff n first.items first.source b t.held ts last
    → SlidesOff n first b (t ∷ ts) last
first_on b n first t ts last some long call asked rest =
    let hs = heaps_in first.source (t.held ∷ heaps_behind ts) in
    let windows = neighbours_more n (suc (length ts)) first.items rest.later some long in
    record {
      later = rest.later;
      long = long;
      came = rest.came;
      called = ap (λ (c : Option (ObjId × List Value)). c ∷ (calls_of ts ++ call_of last.plan ∷ [])) call
          ∙ ap (λ (cs : List (Option (ObjId × List Value))). Some (b, array_given first.held.store first.items ∷ []) ∷ cs)
          rest.called
          ∙ ap (λ (lists : List (List Value)). calls_with b (arrays_given lists (first.held ∷ hs))) (sym windows);
      made = ap (λ (h : Held). h ∷ (map (λ t. t.wanted.held) ts ++ last.held ∷ [])) asked
          ∙ ap (λ (l : List Held). with_array first.held first.items ∷ l) rest.made
          ∙ ap (λ (lists : List (List Value)). arrays_made lists (first.held ∷ hs)) (sym windows);
    }

first_call : (b : ObjId) (n : ℕ) (first : Taken) (v : Visit) (ts : List Turn) (last : Planned Stage) (stage : Stage)
    → waiting last.plan ≡ Some stage → 0 < n → length first.items ≡ n → (p : Planned over_items.Stage)
    → Calling (with_array first.held first.items) (windowed b n first.items (with_rest v first.source))
    (record { callee = b; passed = One (array_given first.held.store first.items) }) p
    → Runs (lifted p) ts last → SlidesOff n first b ts last
first_call b n first v [] last stage waits some long p c runs =
    let same = sym (ap lifted c.same) ∙ runs in
    first_last b n first last some long (ap (λ (q : Planned Stage). call_of q.plan) (sym same))
    (ap (λ (q : Planned Stage). q.held) (sym same))
first_call b n first v (t ∷ ts) last stage waits some long p c runs =
    let m = with_rest v first.source in
    let o = opened_by b n first.items first.held m t ts last c.site (runs.0 ∙ ap lifted c.same) runs.1 in
    subst (λ (us : List Turn). SlidesOff n first b us last) (sym o.same)
    (first_on b n first o.turn o.further last some long o.called o.asked
    (off_course b n o.further last stage waits some o.turn.held first.items (at_site m o.site) o.next long o.begins_so
    o.runs))

first_window_by : (b : ObjId) (n : ℕ) (ts : List Turn) (last : Planned Stage) (stage : Stage)
    → waiting last.plan ≡ Some stage → 0 < n → (held : Held) (v : Visit) (c : Bool) (wanted : Wish) (u : Visit)
    (later : Held) (p : Planned over_items.Stage) → nat_eq (length (taken n held v.source).items) n ≡ c
    → WantsOf (window_called (first_by c (windowed b n [] v) (taken n held v.source))) wanted u later
    → Comes later u wanted p → Runs (lifted p) ts last → SlidesOff n (taken n held v.source) b ts last
first_window_by b n ts last stage waits some held v false wanted u later p long wants comes runs =
    let first = taken n held v.source in
    absurd (no_window b n first.items first.held (with_rest v first.source) ts last stage waits wanted u later p wants comes
    runs)
first_window_by b n ts last stage waits some held v true wanted u later p long wants comes runs =
    let first = taken n held v.source in
    first_call b n first v ts last stage waits some (eqb-true (length first.items) n long) p
    (group_calls b n first.items first.held (with_rest v first.source) wanted u later p wants comes) runs

pub neighbours_cut : (held : Held) (recv size : Value) (n : ℕ) (s : Source) (b : ObjId) (ts : List Turn)
    (last : Planned Stage) → size_of held.store size ≡ Ok n → IsLeft task.EachCons held recv s (size ∷ []) b ts last
    → CutsNeighbours n held s b ts last
neighbours_cut held recv size n s b ts last is_size is =
    let l = leaving task.EachCons held recv s (size ∷ []) None None n b ts last
    (ap (λ (x : Result ℕ Cause). with_size x) is_size) is in
    let v = visit_of task.EachCons recv s None (arguments None None n) (Some b) in
    let g = begun l.start.begun (windowed b n [] v) l.start.first l.start.begins in
    record {
      begun = l.start.begun;
      same = l.start.same;
      slides = first_window_by b n ts last l.stage l.waits (size_some (integer held.store size) n is_size) l.start.begun v
          (nat_eq (length (taken n l.start.begun s).items) n) g.wish g.visit g.later l.start.first refl g.wants g.comes
          l.start.runs;
    }
