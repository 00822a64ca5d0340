-- `sum`
use Rattle.std.proofs.Common.{◌≡◌, refl, sym, ap, subst, ◌∙◌, List, [], ◌∷◌, ◌++◌}
use Rattle.std.specs.Prelude.{pos, true, false, Option, Some, None}
use Rattle.rb_value.specs.declared.value.Value.{Value}
use Rattle.rb_value.specs.declared.value.Value.TheVariants.{Nil, Int}
use Rattle.rb_value.specs.declared.value.ObjId.{ObjId}
use Rattle.rb_value.specs.declared.value.SymId.{SymId}
use Rattle.heap.specs.declared.finding.Site.{Site}
use Rattle.rb_store.specs.Held.{Held}
use Rattle.def_core.specs.Store.{Store}
use Rattle.run_values.specs.declared.given.Given.{Given}
use Rattle.core_calls.specs.declared.beat.Passed.TheVariants.{One}
use Rattle.def_plans.specs.Plan.{Planned, raises, sends, calls, gives}
use Rattle.iter_items.specs.declared.row.Task.TheVariants as task
use Rattle.iter_items.specs.declared.source.Source.{Source}
use Rattle.iter_items.specs.declared.visit.Visit.{Visit}
use Rattle.iter_items.specs.declared.wish.Wish.{Wish}
use Rattle.iter_items.specs.declared.wish.Wish.TheVariants as wish
use Rattle.iter_items.specs.Asking.{Wished, wishes, with_item, with_source}
use Rattle.iter_items.specs.Checks.{arguments}
use Rattle.iter_items.specs.Driving.{WantsOf, Hears, Comes, stops, raises_at_once, goes_on, at_site, planned, Begins, begins, at_once, visit_of}
use Rattle.iter_items.specs.Moved.{as_moved}
use Rattle.iter_items.specs.Sources.{next}
use Rattle.iter_items.specs.Stage as over_items
use Rattle.core_iter.specs.Stage.{Stage, items}
use Rattle.items_laws.specs.Run.{Turn, Leads, Runs}
use Rattle.items_laws.specs.Items.{IsRunBy, IsRunOf, call_of}
use Rattle.items_laws.specs.Sums.{Told, Added, Sums, at_once as told_at_once, when_asked, itself, answered, no_item, one_item, send_of, plus, with_plus, AddsUp}
use Rattle.items_laws.proofs.Begun.{Started, begun_by, begun_so}
use Rattle.items_laws.proofs.Course.{ended, no_turn, waits_for, heard_of}
use Rattle.items_laws.proofs.Inversion.{begun, gone, Calling, arrives, comes_of, not_given}
use Rattle.items_laws.proofs.Small.{not_cons, tail_same}
use Rattle.items_laws.proofs.Visits.{next_held}

abbrev pub lifted : Planned over_items.Stage → Planned Stage
lifted p = as_moved items p

-- The visit between its items, with what came so far.
abbrev pub summing : Option ObjId → SymId → Value → Visit → Visit
summing b name x v = record v {
  task = task.Sum;
  block = b;
  name = Some name;
  value = Some x;
  called = false;
  wish = None;
}

-- a value is added: by some turns, and the others follow
record Telling (name : SymId) (b : Option ObjId) (held : Held) (s : Source) (x y : Value) (ts : List Turn) (r : Value)
    (after : Held) : Type 0 where
  ws : List Turn
  us : List Turn
  sum : Value
  left : Held
  parts : ts ≡ ws ++ us
  told : Told name held x y ws sum left
  sums : Sums name b left s sum us r after

-- it wants the sum of two values
abbrev pub IsAsked : Option ObjId → SymId → Held → Visit → Value → Value → Held → Visit → Wish → Type 0
IsAsked b name held v x y h u w =
    wishes held (summing b name x v) (wish.Asks x y) ≡ record { wish = Some w; visit = u; held = h }

abbrev Asks : Option ObjId → SymId → List Turn → Value → Held → Held → Visit → Wish → Type 0
Asks b name ts r after h u w = (held : Held) (v : Visit) (x y : Value) → IsAsked b name held v x y h u w
    → Telling name b held v.source x y ts r after

-- so it is of these turns
record Summing (b : Option ObjId) (name : SymId) (ts : List Turn) (r : Value) (after : Held) : Type 0 where
  begins_so : (held : Held) (v : Visit) (x : Value) (p : Planned over_items.Stage) → Begins held (summing b name x v) p
      → Runs (lifted p) ts (gives after r) → Sums name b held v.source x ts r after
  asks_so : (h : Held) (u : Visit) (w : Wish) (p : Planned over_items.Stage) → Comes h u w p
      → Runs (lifted p) ts (gives after r) → Asks b name ts r after h u w

-- of the turns behind the first
abbrev Behind : Option ObjId → SymId → List Turn → Value → Held → Type 0
Behind b name ts r after = (t : Turn) (us : List Turn) → ts ≡ t ∷ us → Summing b name us r after

-- What an answer to a message leads to.

-- the plan of a wish, and what it gives at once

abbrev pub planned_by : Site → Held → Visit → Option Wish → Planned over_items.Stage
planned_by site held v None = gives held Nil
planned_by site held v (Some w) = planned held (at_site v site) w

abbrev pub once_by : Held → Visit → Option Wish → Option Given × Store
once_by held v None = (None, held.store)
once_by held v (Some (wish.Ends x)) = (None, held.store)
once_by held v (Some (wish.Fails c)) = (None, held.store)
once_by held v (Some (wish.Raises e)) = (None, held.store)
once_by held v (Some (wish.Calls c)) = (None, held.store)
once_by held v (Some (wish.Asks x y)) = at_once held.store v x y

-- the message
abbrev pub message : Option ObjId → SymId → Held → Visit → Value → Value → Site → Planned Stage
message b name held v x y site = record {
  plan = sends (items (over_items.visits (at_site (summing b name x v) site))) x name (y ∷ []) None false;
  held = held;
}

-- no value comes of one that raises

abbrev pub raising : Held → ObjId → Planned Stage
raising k e = record { plan = raises e; held = k }

pub raised : (ts : List Turn) (k : Held) (e : ObjId) (r : Value) (after : Held) → Runs (raising k e) ts (gives after r) → ⊥
raised [] k e r after runs = not_given (raising k e) after r refl runs
raised (t ∷ ts) k e r after runs =
    no_turn t (raising k e) (λ next. Runs next ts (gives after r)) refl runs.0 runs.1

told_by_turn : (b : Option ObjId) (name : SymId) (t : Turn) (ts : List Turn) (r : Value) (after : Held)
    → Summing b name ts r after → (held : Held) (v : Visit) (x y : Value) (site : Site)
    → t.wanted ≡ message b name held v x y site → Leads t (λ next. Runs next ts (gives after r))
    → Telling name b held v.source x y (t ∷ ts) r after
told_by_turn b name t ts r after rest held v x y site same leads =
    let u = at_site (summing b name x v) site in
    let stage = waits_for t (message b name held v x y site) (items (over_items.visits u)) leads.stage same refl
    leads.waits in
    let next = heard_of t.held u t.answer leads.next leads.stage refl stage leads.follows in
    let g = gone t.held u t.answer next.inner next.meant in
    let later = at_site v site in
    record {
      ws = t ∷ [];
      us = ts;
      sum = t.answer;
      left = t.held;
      parts = refl;
      told = when_asked t (ap (λ (q : Planned Stage). q.held) same) (ap (λ (q : Planned Stage). send_of q.plan) same);
      sums = rest.begins_so t.held later t.answer next.inner
          (begins t.held g.later (summing b name t.answer later) g.visit g.wish next.inner g.hears g.comes)
          (subst (λ (q : Planned Stage). Runs q ts (gives after r)) next.same leads.further);
    }

-- the message is sent
by_message : (b : Option ObjId) (name : SymId) (ts : List Turn) (r : Value) (after : Held) → Behind b name ts r after
    → (held : Held) (v : Visit) (x y : Value) (site : Site) (p : Planned Stage) → p ≡ message b name held v x y site
    → Runs p ts (gives after r) → Telling name b held v.source x y ts r after
by_message b name [] r after rest held v x y site p same runs =
    absurd (not_given (message b name held v x y site) after r refl (sym same ∙ runs))
by_message b name (t ∷ ts) r after rest held v x y site p same runs =
    told_by_turn b name t ts r after (rest t ts refl) held v x y site (runs.0 ∙ same) runs.1

-- What comes of the next item.

abbrev SumsBy : Option ObjId → SymId → List Turn → Value → Held → Held → Visit → Value → Type 0
SumsBy b name ts r after held v x = Sums name b held v.source x ts r after

summed_up : (b : Option ObjId) (name : SymId) (ts : List Turn) (r : Value) (after held : Held) (v : Visit) (x : Value)
    → (next held v.source).item ≡ None → (ts ≡ []) × (r ≡ x) × (after ≡ (next held v.source).held)
    → SumsBy b name ts r after held v x
summed_up b name ts r after held v x none end =
    subst (λ (us : List Turn). Sums name b held v.source x us r after) (sym end.0)
    (subst (λ (y : Value). Sums name b held v.source x [] y after) (sym end.1)
    (subst (λ (h : Held). Sums name b held v.source x [] x h) (sym (end.2 ∙ next_held held v.source none))
    (no_item held v.source x none)))

-- with an item before the others
added_on : (b : Option ObjId) (name : SymId) (ts us : List Turn) (r : Value) (after held k : Held) (s : Source)
    (x i y : Value) → (next held s).item ≡ Some i → Added (next held s).held i b us y k
    → Telling name b k (next held s).source x y ts r after → Sums name b held s x (us ++ ts) r after
added_on b name ts us r after held k s x i y there added t =
    subst (λ (ws : List Turn). Sums name b held s x (us ++ ws) r after) (sym t.parts)
    (one_item held k t.left after s x i y t.sum r us t.ws t.us there added t.told t.sums)

abbrev pub at_next : Held → Visit → Value → Visit
at_next held v i = record (with_source v (next held v.source)) { item = i }

-- the block is called with the item

abbrev pub in_block : ObjId → SymId → Held → Visit → Value → Value → Visit
in_block c name held v x i = record (summing (Some c) name x (at_next held v i)) { called = true }

abbrev pub called_with : ObjId → SymId → Held → Visit → Value → Value → Site → Planned Stage
called_with c name held v x i site = record {
  plan = calls (items (over_items.visits (at_site (in_block c name held v x i) site))) c (i ∷ []) None;
  held = (next held v.source).held;
}

answer_added : (c : ObjId) (name : SymId) (t : Turn) (ts : List Turn) (r : Value) (after : Held)
    → Summing (Some c) name ts r after → (held : Held) (v : Visit) (x i : Value) (site : Site)
    → (next held v.source).item ≡ Some i → t.wanted ≡ called_with c name held v x i site
    → Leads t (λ next. Runs next ts (gives after r)) → SumsBy (Some c) name (t ∷ ts) r after held v x
answer_added c name t ts r after rest held v x i site there same leads =
    let u = at_site (in_block c name held v x i) site in
    let stage = waits_for t (called_with c name held v x i site) (items (over_items.visits u)) leads.stage same refl
    leads.waits in
    let next = heard_of t.held u t.answer leads.next leads.stage refl stage leads.follows in
    let g = gone t.held u t.answer next.inner next.meant in
    let tell = rest.asks_so g.later g.visit g.wish next.inner g.comes
    (subst (λ (q : Planned Stage). Runs q ts (gives after r)) next.same leads.further)
    t.held (at_site (at_next held v i) site) x t.answer g.hears in
    added_on (Some c) name ts (t ∷ []) r after held t.held v.source x i t.answer there
    (answered c t (ap (λ (q : Planned Stage). q.held) same) (ap (λ (q : Planned Stage). call_of q.plan) same)) tell

by_block : (c : ObjId) (name : SymId) (ts : List Turn) (r : Value) (after : Held) → Behind (Some c) name ts r after
    → (held : Held) (v : Visit) (x i : Value) (p : Planned over_items.Stage) → (next held v.source).item ≡ Some i
    → Calling (next held v.source).held (in_block c name held v x i) (record { callee = c; passed = One i }) p
    → Runs (lifted p) ts (gives after r) → SumsBy (Some c) name ts r after held v x
by_block c name [] r after rest held v x i p there k runs = absurd (not_given
    (called_with c name held v x i k.site) after r refl (ap lifted (sym k.same) ∙ runs))
by_block c name (t ∷ ts) r after rest held v x i p there k runs = answer_added c name t ts r after (rest t ts refl)
    held v x i k.site there (runs.0 ∙ ap lifted k.same) runs.1

-- by the item, and whether there is a block
by_item : (b : Option ObjId) (name : SymId) (ts : List Turn) (r : Value) (after : Held) → Behind b name ts r after
    → (held : Held) (v : Visit) (x : Value) (o : Option Value) (w : Wish) (u : Visit) (later : Held)
    (p : Planned over_items.Stage) → (next held v.source).item ≡ o
    → WantsOf (with_item (next held v.source).held (with_source (summing b name x v) (next held v.source)) o) w u later
    → Comes later u w p → Runs (lifted p) ts (gives after r) → Asks b name ts r after later u w
    → SumsBy b name ts r after held v x
by_item b name ts r after rest held v x None w u later p there wants comes runs asks =
    let k = (next held v.source).held in
    let m = with_source (summing b name x v) (next held v.source) in
    summed_up b name ts r after held v x there (ended ts k m x r after p
    (comes_of (wishes k m (wish.Ends x)) later u w p wants comes) runs)
by_item None name ts r after rest held v x (Some i) w u later p there wants comes runs asks =
    let k = (next held v.source).held in
    added_on None name ts [] r after held k v.source x i i there itself (asks k (at_next held v i) x i wants)
by_item (Some c) name ts r after rest held v x (Some i) w u later p there wants comes runs asks =
    let k = (next held v.source).held in
    let m = in_block c name held v x i in
    let call : Wish = wish.Calls (record { callee = c; passed = One i }) in
    by_block c name ts r after rest held v x i p there
    (arrives k m call p (comes_of (wishes k m call) later u w p wants comes)) runs

-- The wish for a sum.

by_wish : (b : Option ObjId) (name : SymId) (ts : List Turn) (r : Value) (after : Held) → Behind b name ts r after
    → (h : Held) (u : Visit) (w : Wish) (p : Planned over_items.Stage) → Comes h u w p
    → Runs (lifted p) ts (gives after r) → Asks b name ts r after h u w
by_wish b name ts r after rest h u w p (stops k m site z) runs = λ held v x y is.
    by_message b name ts r after rest held v x y site (lifted (planned k (at_site m site) z))
    (ap lifted (sym (ap (λ (a : Wished). planned_by site a.held a.visit a.wish) is))) runs
by_wish b name ts r after rest h u w p (raises_at_once k left m recv argument e once) runs =
    absurd (raised ts left e r after runs)
by_wish b name ts r after rest h u w p (goes_on k left later m n site recv argument answer z q once hears comes) runs =
    λ held v x y is.
    let heard = subst (λ (o : Visit). Hears left (at_site o site) answer z n later)
    (sym (ap (λ (a : Wished). a.visit) is)) hears in
    let on = at_site v site in
    record {
      ws = [];
      us = ts;
      sum = answer;
      left = left;
      parts = refl;
      told = told_at_once left answer (ap (λ (a : Wished). once_by a.held a.visit a.wish) is ∙ once);
      sums = by_item b name ts r after rest left on answer (next left v.source).item z n later q refl heard comes runs
          (by_wish b name ts r after rest later n z q comes runs);
    }

summing_step : (b : Option ObjId) (name : SymId) (ts : List Turn) (r : Value) (after : Held)
    → Behind b name ts r after → Summing b name ts r after
summing_step b name ts r after rest = record {
  begins_so = λ held v x p begin runs.
      let g = begun held (summing b name x v) p begin in
      by_item b name ts r after rest held v x (next held v.source).item g.wish g.visit g.later p refl g.wants g.comes runs
      (by_wish b name ts r after rest g.later g.visit g.wish p g.comes runs);
  asks_so = λ h u w p comes runs. by_wish b name ts r after rest h u w p comes runs;
}

all_summed : (b : Option ObjId) (name : SymId) (ts : List Turn) (r : Value) (after : Held) → Summing b name ts r after
all_summed b name [] r after = summing_step b name [] r after (λ t us e. absurd (not_cons t us (sym e)))
all_summed b name (t ∷ ts) r after = summing_step b name (t ∷ ts) r after
    (λ u us e. subst (λ (xs : List Turn). Summing b name xs r after) (tail_same t u ts us e)
    (all_summed b name ts r after))

-- From the beginning.

of_started : (b : Option ObjId) (held : Held) (recv : Value) (s : Source) (x : Value) (ts : List Turn) (v : Value)
    (after : Held)
    → Started task.Sum (with_plus held) recv s (Some x) (Some (plus held)) 0 b ts v after → AddsUp b held s x ts v after
of_started b held recv s x ts v after st = record {
  begun = st.begun;
  same = st.same;
  sums = (all_summed b (plus held) ts v after).begins_so st.begun
      (visit_of task.Sum recv s None (arguments (Some x) (Some (plus held)) 0) b) x st.first st.begins st.runs;
}

pub block_added : (held after : Held) (recv v : Value) (s : Source) (b : ObjId) (ts : List Turn)
    → IsRunOf task.Sum held recv s [] b ts v after → AddsUp (Some b) held s (Int (pos 0)) ts v after
block_added held after recv v s b ts is = of_started (Some b) held recv s (Int (pos 0)) ts v after
    (begun_so task.Sum held recv s [] b (Some (Int (pos 0))) (Some (plus held)) 0 ts v after refl is)

pub block_added_to : (held after : Held) (recv first v : Value) (s : Source) (b : ObjId) (ts : List Turn)
    → IsRunOf task.Sum held recv s (first ∷ []) b ts v after → AddsUp (Some b) held s first ts v after
block_added_to held after recv first v s b ts is = of_started (Some b) held recv s first ts v after
    (begun_so task.Sum held recv s (first ∷ []) b (Some first) (Some (plus held)) 0 ts v after refl is)

pub items_added : (held after : Held) (recv v : Value) (s : Source) (ts : List Turn)
    → IsRunBy task.Sum held recv s [] None ts v after → AddsUp None held s (Int (pos 0)) ts v after
items_added held after recv v s ts is = of_started None held recv s (Int (pos 0)) ts v after
    (begun_by task.Sum held recv s [] None (Some (Int (pos 0))) (Some (plus held)) 0 ts v after refl is)

pub items_added_to : (held after : Held) (recv first v : Value) (s : Source) (ts : List Turn)
    → IsRunBy task.Sum held recv s (first ∷ []) None ts v after → AddsUp None held s first ts v after
items_added_to held after recv first v s ts is = of_started None held recv s first ts v after
    (begun_by task.Sum held recv s (first ∷ []) None (Some first) (Some (plus held)) 0 ts v after refl is)
