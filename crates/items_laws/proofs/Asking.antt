-- Visits that ask for a method again and again: their items, or what came so far.
use Rattle.std.proofs.Common.{◌≡◌, refl, sym, ap, subst, ◌∙◌, List, [], ◌∷◌, ◌++◌}
use Rattle.std.specs.Prelude.{ℕ, Bool, true, false, ◌&&◌, if◌then◌else◌, Option, Some, None}
use Rattle.rb_value.specs.declared.value.Value.{Value}
use Rattle.rb_value.specs.declared.value.Value.TheVariants.{Nil, True}
use Rattle.rb_value.specs.declared.value.ObjId.{ObjId}
use Rattle.rb_value.specs.declared.value.SymId.{SymId}
use Rattle.heap.specs.declared.finding.Site.{Site}
use Rattle.rb_store.specs.Held.{Held}
use Rattle.def_core.specs.Store.{Store}
use Rattle.run_values.specs.declared.given.Given.{Given}
use Rattle.run_values.specs.declared.given.Given.TheVariants.{Gives}
use Rattle.def_plans.specs.Plan.{Planned, sends, gives}
use Rattle.iter_comparing.specs.Outright.{outright}
use Rattle.iter_items.specs.declared.row.Task.{Task}
use Rattle.iter_items.specs.declared.source.Source.{Source}
use Rattle.iter_items.specs.declared.visit.Visit.{Visit}
use Rattle.iter_items.specs.declared.wish.Wish.{Wish}
use Rattle.iter_items.specs.declared.wish.Wish.TheVariants as wish
use Rattle.iter_items.specs.Asking.{Wished, wishes, with_item, with_source, ask_of, asked as asked_of, visited, visited_by, is_backwards}
use Rattle.iter_items.specs.Hearing.{Heard, heard, onward}
use Rattle.iter_items.specs.Driving.{Ends, IsLeft, ends, WantsOf, HearsOf, Hears, Comes, stops, raises_at_once, goes_on, at_site, planned, sent, Begins, begins, is_count, same_value}
use Rattle.iter_items.specs.Moved.{as_moved}
use Rattle.iter_items.specs.Sources.{next, previous}
use Rattle.iter_items.specs.Stage as over_items
use Rattle.core_iter.specs.Stage.{Stage, items}
use Rattle.items_laws.specs.Run.{Turn, Leads, Runs}
use Rattle.items_laws.specs.Asked.{Replies, unasked, nil_asked, told, asked}
use Rattle.items_laws.specs.Sums.{send_of}
use Rattle.items_laws.proofs.Course.{ended, waits_for, heard_of}
use Rattle.items_laws.proofs.Inversion.{begun, gone, comes_of, not_given}
use Rattle.items_laws.proofs.Small.{not_cons, tail_same}
use Rattle.items_laws.proofs.Summed.{planned_by, once_by, raised}
use Rattle.items_laws.proofs.Visits.{next_held}

-- A method: what its visit keeps of what came so far, who is asked with what, what comes of a reply, and what it gives.
pub record Shape (S : Type 0) : Type 0 where
  pub task : Task
  pub block : Option ObjId
  pub name : SymId
  pub value : S → Option Value
  pub tally : S → ℕ
  pub asked : S → Value → Value
  pub argument : S → Value → Value
  pub step : S → Value → S
  pub ending : S → Value

-- the visit between its items
abbrev pub between : {S : Type 0} → Shape S → S → Visit → Visit
between g x v = record v {
  task = g.task;
  block = g.block;
  name = Some g.name;
  value = g.value x;
  tally = g.tally x;
  called = false;
  wish = None;
}

abbrev pub knows_of : {S : Type 0} → Shape S → Value → Value → Bool
knows_of g l q = is_count g.task && same_value l q

pub record Method {S : Type 0} (g : Shape S) : Type 0 where
  pub forwards : is_backwards g.task ≡ false
  pub asks : (held : Held) (x : S) (v : Visit) → asked_of held (between g x v) ≡ visited held (between g x v)
  pub wants : (held : Held) (x : S) (v : Visit) (i : Value)
      → ask_of g.task held (record (between g x v) { item = i }) i
      ≡ wishes held (record (between g x v) { item = i }) (wish.Asks (g.asked x i) (g.argument x i))
  pub hears : (held : Held) (x : S) (v : Visit) (a : Value)
      → heard held (between g x v) a ≡ onward held (between g (g.step x a) v)
  pub ends : (held : Held) (x : S) (v : Visit) (w : Wish) (u : Visit) (later : Held)
      → Ends g.task held (between g x v) w u later → IsLeft (ends held (between g x v) (g.ending x)) w u later

-- from a heap on, with what came so far
pub data Course {S : Type 0} (g : Shape S) : Held → Source → S → List Turn → Value → Held → Type 0 where
  none_left : (held : Held) (s : Source) (x : S) → (next held s).item ≡ None → Course g held s x [] (g.ending x) held
  one_more : (held k after : Held) (s : Source) (x : S) (i a r : Value) (ws ts : List Turn)
      → (next held s).item ≡ Some i
      → Replies (knows_of g (g.asked x i) (g.argument x i)) g.name (next held s).held (g.asked x i)
      (g.argument x i ∷ []) ws a k
      → Course g k (next held s).source (g.step x a) ts r after → Course g held s x (ws ++ ts) r after

abbrev lifted : Planned over_items.Stage → Planned Stage
lifted p = as_moved items p

-- one is asked: by some turns, and the others follow
record Telling {S : Type 0} (g : Shape S) (held : Held) (s : Source) (x : S) (l q : Value) (ts : List Turn) (r : Value)
    (after : Held) : Type 0 where
  ws : List Turn
  us : List Turn
  answer : Value
  left : Held
  parts : ts ≡ ws ++ us
  told_so : Replies (knows_of g l q) g.name held l (q ∷ []) ws answer left
  rest : Course g left s (g.step x answer) us r after

abbrev pub IsAsked : {S : Type 0} → Shape S → Held → Visit → S → Value → Value → Held → Visit → Wish → Type 0
IsAsked g held v x l q h u w =
    wishes held (between g x v) (wish.Asks l q) ≡ record { wish = Some w; visit = u; held = h }

abbrev AsksSo : {S : Type 0} → Shape S → List Turn → Value → Held → Held → Visit → Wish → Type 0
AsksSo {S = S} g ts r after h u w = (held : Held) (v : Visit) (x : S) (l q : Value) → IsAsked g held v x l q h u w
    → Telling g held v.source x l q ts r after

record Coursing {S : Type 0} (g : Shape S) (ts : List Turn) (r : Value) (after : Held) : Type 0 where
  begins_so : (held : Held) (v : Visit) (x : S) (p : Planned over_items.Stage) → Begins held (between g x v) p
      → Runs (lifted p) ts (gives after r) → Course g held v.source x ts r after
  asks_so : (h : Held) (u : Visit) (w : Wish) (p : Planned over_items.Stage) → Comes h u w p
      → Runs (lifted p) ts (gives after r) → AsksSo g ts r after h u w

abbrev Behind : {S : Type 0} → Shape S → List Turn → Value → Held → Type 0
Behind g ts r after = (t : Turn) (us : List Turn) → ts ≡ t ∷ us → Coursing g us r after

-- What an answer to a message leads to.

abbrev pub message : {S : Type 0} → Shape S → Held → Visit → S → Value → Value → Site → Planned Stage
message g held v x l q site = record {
  plan = sends (items (over_items.visits (at_site (between g x v) site))) l g.name (q ∷ []) None false;
  held = held;
}

-- a message was answered
record Answered {S : Type 0} (g : Shape S) (held : Held) (s : Source) (x : S) (l q : Value) (ts : List Turn) (r : Value)
    (after : Held) : Type 0 where
  turn : Turn
  further : List Turn
  same : ts ≡ turn ∷ further
  wanted : turn.wanted.held ≡ held
  message : send_of turn.wanted.plan ≡ Some (l, g.name, q ∷ [])
  rest : Course g turn.held s (g.step x turn.answer) further r after

answered_by : {S : Type 0} (g : Shape S) (m : Method g) (t : Turn) (ts : List Turn) (r : Value) (after : Held)
    → Coursing g ts r after → (held : Held) (v : Visit) (x : S) (l q : Value) (site : Site)
    → t.wanted ≡ message g held v x l q site → Leads t (λ next. Runs next ts (gives after r))
    → Answered g held v.source x l q (t ∷ ts) r after
answered_by g m t ts r after rest held v x l q site same leads =
    let u = at_site (between g x v) site in
    let on = at_site v site in
    let stage = waits_for t (message g held v x l q site) (items (over_items.visits u)) leads.stage same refl leads.waits in
    let next = heard_of t.held u t.answer leads.next leads.stage refl stage leads.follows in
    let gn = gone t.held u t.answer next.inner next.meant in
    let hears = subst (λ (h : Heard). HearsOf h gn.wish gn.visit gn.later) (m.hears t.held x on t.answer) gn.hears in
    record {
      turn = t;
      further = ts;
      same = refl;
      wanted = ap (λ (p : Planned Stage). p.held) same;
      message = ap (λ (p : Planned Stage). send_of p.plan) same;
      rest = rest.begins_so t.held on (g.step x t.answer) next.inner
          (begins t.held gn.later (between g (g.step x t.answer) on) gn.visit gn.wish next.inner hears gn.comes)
          (subst (λ (p : Planned Stage). Runs p ts (gives after r)) next.same leads.further);
    }

by_message : {S : Type 0} (g : Shape S) (m : Method g) (ts : List Turn) (r : Value) (after : Held) → Behind g ts r after
    → (held : Held) (v : Visit) (x : S) (l q : Value) (site : Site) (p : Planned Stage) → p ≡ message g held v x l q site
    → Runs p ts (gives after r) → Answered g held v.source x l q ts r after
by_message g m [] r after rest held v x l q site p same runs =
    absurd (not_given (message g held v x l q site) after r refl (sym same ∙ runs))
by_message g m (t ∷ ts) r after rest held v x l q site p same runs =
    answered_by g m t ts r after (rest t ts refl) held v x l q site (runs.0 ∙ same) runs.1

-- the message that is sent, whether the reply is known or not
abbrev pub sent_by : {S : Type 0} → Shape S → Held → Visit → S → Value → Value → Site → Bool → Planned Stage
sent_by g held v x l q site c = lifted (if c then sent held (at_site (between g x v) site) Nil Nil (Some g.name)
    else sent held (at_site (between g x v) site) l q (Some g.name))

told_by_message : {S : Type 0} (g : Shape S) (m : Method g) (ts : List Turn) (r : Value) (after : Held)
    → Behind g ts r after → (held : Held) (v : Visit) (x : S) (l q : Value) (site : Site) (p : Planned Stage) (c : Bool)
    → knows_of g l q ≡ c → p ≡ sent_by g held v x l q site c
    → Runs p ts (gives after r) → Telling g held v.source x l q ts r after
told_by_message g m ts r after rest held v x l q site p true known same runs =
    let a = by_message g m ts r after rest held v x Nil Nil site p same runs in
    record {
      ws = a.turn ∷ [];
      us = a.further;
      answer = a.turn.answer;
      left = a.turn.held;
      parts = a.same;
      told_so = nil_asked a.turn known a.wanted a.message;
      rest = a.rest;
    }
told_by_message g m ts r after rest held v x l q site p false known same runs =
    let a = by_message g m ts r after rest held v x l q site p same runs in
    record {
      ws = a.turn ∷ [];
      us = a.further;
      answer = a.turn.answer;
      left = a.turn.held;
      parts = a.same;
      told_so = asked a.turn a.wanted a.message;
      rest = a.rest;
    }

-- what is given at once

abbrev given_by : Store → Value → SymId → List Value → Bool → Option Given × Store
given_by st l name args c = if c then (Some (Gives True), st) else outright st l name args

value_given : (a b : Value) → Some (Gives a) ≡ Some (Gives b) → a ≡ b
value_given a b e = cc

pub told_at : (known : Bool) (name : SymId) (held left : Held) (l : Value) (args : List Value) (a : Value) (c : Bool)
    → known ≡ c → given_by held.store l name args c ≡ (Some (Gives a), left.store)
    → Replies known name held l args [] a left
told_at known name held left l args a true is once =
    let value = value_given True a (ap (λ (o : Option Given × Store). o.0) once) in
    subst (λ (y : Value). Replies known name held l args [] y left) value
    (unasked left is (sym (ap (λ (o : Option Given × Store). o.1) once)))
told_at known name held left l args a false is once = told a left is once

-- What comes of the next item.

abbrev CourseAt : {S : Type 0} → Shape S → List Turn → Value → Held → Held → Visit → S → Type 0
CourseAt g ts r after held v x = Course g held v.source x ts r after

over : {S : Type 0} (g : Shape S) (ts : List Turn) (r : Value) (after held : Held) (v : Visit) (x : S)
    → (next held v.source).item ≡ None → (ts ≡ []) × (r ≡ g.ending x) × (after ≡ (next held v.source).held)
    → CourseAt g ts r after held v x
over g ts r after held v x none end =
    subst (λ (us : List Turn). Course g held v.source x us r after) (sym end.0)
    (subst (λ (y : Value). Course g held v.source x [] y after) (sym end.1)
    (subst (λ (h : Held). Course g held v.source x [] (g.ending x) h) (sym (end.2 ∙ next_held held v.source none))
    (none_left held v.source x none)))

added_on : {S : Type 0} (g : Shape S) (ts : List Turn) (r : Value) (after held : Held) (s : Source) (x : S) (i : Value)
    → (next held s).item ≡ Some i
    → Telling g (next held s).held (next held s).source x (g.asked x i) (g.argument x i) ts r after
    → Course g held s x ts r after
added_on g ts r after held s x i there t = subst (λ (us : List Turn). Course g held s x us r after) (sym t.parts)
    (one_more held t.left after s x i t.answer r t.ws t.us there t.told_so t.rest)

by_item : {S : Type 0} (g : Shape S) (m : Method g) (ts : List Turn) (r : Value) (after held : Held) (v : Visit) (x : S)
    (o : Option Value) (w : Wish) (u : Visit) (later : Held) (p : Planned over_items.Stage)
    → (next held v.source).item ≡ o
    → WantsOf (with_item (next held v.source).held (with_source (between g x v) (next held v.source)) o) w u later
    → Comes later u w p → Runs (lifted p) ts (gives after r) → AsksSo g ts r after later u w
    → CourseAt g ts r after held v x
by_item g m ts r after held v x None w u later p there wants comes runs asks =
    let k = (next held v.source).held in
    let n = with_source (between g x v) (next held v.source) in
    over g ts r after held v x there (ended ts k n (g.ending x) r after p
    (comes_of (wishes k n (wish.Ends (g.ending x))) later u w p
    (m.ends k x (with_source v (next held v.source)) w u later wants) comes) runs)
by_item g m ts r after held v x (Some i) w u later p there wants comes runs asks =
    let k = (next held v.source).held in
    let n = with_source v (next held v.source) in
    added_on g ts r after held v.source x i there
    (asks k (record n { item = i }) x (g.asked x i) (g.argument x i)
    (subst (λ (a : Wished). WantsOf a w u later) (m.wants k x n i) wants))

-- what a visit wants between its items
by_wanted : {S : Type 0} (g : Shape S) (m : Method g) (ts : List Turn) (r : Value) (after held : Held) (v : Visit) (x : S)
    (w : Wish) (u : Visit) (later : Held) (p : Planned over_items.Stage)
    → WantsOf (asked_of held (between g x v)) w u later → Comes later u w p → Runs (lifted p) ts (gives after r)
    → AsksSo g ts r after later u w → CourseAt g ts r after held v x
by_wanted g m ts r after held v x w u later p wants comes runs asks =
    let seen = subst (λ (a : Wished). WantsOf a w u later) (m.asks held x v) wants in
    by_item g m ts r after held v x (next held v.source).item w u later p refl
    (subst (λ (c : Bool). WantsOf (visited_by (between g x v)
    (if c then previous held v.source else next held v.source)) w u later) m.forwards seen) comes runs asks

by_wish : {S : Type 0} (g : Shape S) (m : Method g) (ts : List Turn) (r : Value) (after : Held) → Behind g ts r after
    → (h : Held) (u : Visit) (w : Wish) (p : Planned over_items.Stage) → Comes h u w p
    → Runs (lifted p) ts (gives after r) → AsksSo g ts r after h u w
by_wish g m ts r after rest h u w p (stops k n site z) runs = λ held v x l q is.
    told_by_message g m ts r after rest held v x l q site (lifted (planned k (at_site n site) z)) (knows_of g l q) refl
    (ap lifted (sym (ap (λ (a : Wished). planned_by site a.held a.visit a.wish) is))) runs
by_wish g m ts r after rest h u w p (raises_at_once k left n recv argument e once) runs =
    absurd (raised ts left e r after runs)
by_wish g m ts r after rest h u w p (goes_on k left later n j site recv argument answer z p2 once hears comes) runs =
    λ held v x l q is.
    let on = at_site v site in
    let heard_at = subst (λ (y : Visit). Hears left (at_site y site) answer z j later)
    (sym (ap (λ (a : Wished). a.visit) is)) hears in
    let wants = subst (λ (y : Heard). HearsOf y z j later) (m.hears left x on answer) heard_at in
    record {
      ws = [];
      us = ts;
      answer = answer;
      left = left;
      parts = refl;
      told_so = told_at (knows_of g l q) g.name held left l (q ∷ []) answer (knows_of g l q) refl
          (ap (λ (a : Wished). once_by a.held a.visit a.wish) is ∙ once);
      rest = by_wanted g m ts r after left on (g.step x answer) z j later p2 wants comes runs
          (by_wish g m ts r after rest later j z p2 comes runs);
    }

coursing_step : {S : Type 0} (g : Shape S) (m : Method g) (ts : List Turn) (r : Value) (after : Held)
    → Behind g ts r after → Coursing g ts r after
coursing_step g m ts r after rest = record {
  begins_so = λ held v x p begin runs.
      let b = begun held (between g x v) p begin in
      by_wanted g m ts r after held v x b.wish b.visit b.later p b.wants b.comes runs
      (by_wish g m ts r after rest b.later b.visit b.wish p b.comes runs);
  asks_so = λ h u w p comes runs. by_wish g m ts r after rest h u w p comes runs;
}

coursing : {S : Type 0} (g : Shape S) (m : Method g) (ts : List Turn) (r : Value) (after : Held) → Coursing g ts r after
coursing g m [] r after = coursing_step g m [] r after (λ t us e. absurd (not_cons t us (sym e)))
coursing g m (t ∷ ts) r after = coursing_step g m (t ∷ ts) r after
    (λ u us e. subst (λ (xs : List Turn). Coursing g xs r after) (tail_same t u ts us e) (coursing g m ts r after))

pub coursed : {S : Type 0} (g : Shape S) (m : Method g) (ts : List Turn) (r : Value) (after held : Held) (v : Visit) (x : S)
    (p : Planned over_items.Stage) → Begins held (between g x v) p → Runs (lifted p) ts (gives after r)
    → Course g held v.source x ts r after
coursed g m ts r after held v x p begin runs = (coursing g m ts r after).begins_so held v x p begin runs
