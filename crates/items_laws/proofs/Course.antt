-- What a visit that only calls its block comes to over the turns of a run.
use Rattle.std.proofs.Common.{◌≡◌, refl, sym, ap, subst, ◌∙◌, List, [], ◌∷◌}
use Rattle.std.specs.Prelude.{Option, Some, None}
use Rattle.rb_value.specs.declared.value.Value.{Value}
use Rattle.rb_value.specs.declared.value.ObjId.{ObjId}
use Rattle.def_core.specs.declared.cause.Cause.{Cause}
use Rattle.heap.specs.declared.finding.Site.{Site}
use Rattle.rb_store.specs.Held.{Held}
use Rattle.core_calls.specs.declared.beat.Passed.{Passed}
use Rattle.core_calls.specs.Passing.{args_of}
use Rattle.def_plans.specs.Plan.{Planned, calls, gives, refuses}
use Rattle.iter_items.specs.declared.source.Source.{Source}
use Rattle.iter_items.specs.declared.visit.Visit.{Visit}
use Rattle.iter_items.specs.declared.wish.Wish.{Wish}
use Rattle.iter_items.specs.declared.wish.Wish.TheVariants as wish
use Rattle.iter_items.specs.Sources as sources
use Rattle.iter_items.specs.Asking.{Wished, wishes, passed, visited, with_item, with_source, ask_of, asked}
use Rattle.iter_items.specs.Hearing.{Heard, going, failing, heard}
use Rattle.iter_items.specs.Driving.{Ends, WantsOf, HearsBy, HearsOf, Comes, at_site, Begins, begins, GoesOn, NextBy}
use Rattle.iter_items.specs.Moved.{as_moved}
use Rattle.iter_items.specs.Rows as over_rows
use Rattle.iter_items.specs.Stage as over_items
use Rattle.core_iter.specs.Stage.{Stage, items}
use Rattle.core_iter.specs.Rows.{GoesOn as FollowsOf}
use Rattle.items_laws.specs.Run.{Turn, Leads, Runs, waiting}
use Rattle.items_laws.specs.Items.{call_of}
use Rattle.items_laws.proofs.Inversion.{Unmoved, unmoved, begun, gone, Calling, arrives, comes_of, same_value, same_held, not_given}
use Rattle.items_laws.proofs.Small.{some_same, none_some, not_cons, tail_same}

-- the visit at an item that was handed on
abbrev pub at_item : Visit → sources.Passed Source → Value → Site → Visit
at_item v p x site = at_site (record (with_source v p) { item = x }) site

-- what was heard ends the run, or leads on
abbrev pub OrEnds : (Held → Visit → Type 0) → List Turn → Value → Held → Wished → Option Wish → Type 0
OrEnds Rest ts r after a None = Rest a.held a.visit
OrEnds Rest ts r after a (Some (wish.Ends x)) = (ts ≡ []) × (r ≡ x) × (after ≡ a.held)
OrEnds Rest ts r after a (Some (wish.Fails c)) = ⊥
OrEnds Rest ts r after a (Some (wish.Raises e)) = ⊥
OrEnds Rest ts r after a (Some (wish.Calls b)) = ⊥
OrEnds Rest ts r after a (Some (wish.Asks recv argument)) = ⊥

abbrev pub Further : (Held → Visit → Type 0) → List Turn → Value → Held → Heard → Type 0
Further Rest ts r after (going a) = OrEnds Rest ts r after a a.wish
Further Rest ts r after (failing c k) = ⊥

-- no item is left
pub record Over (held : Held) (v : Visit) (r : Value) (after : Held) : Type 0 where
  pub none : (passed held v).item ≡ None
  pub last : Visit
  pub ends : Ends v.task (passed held v).held (with_source v (passed held v)) (wish.Ends r) last after

-- the block was called with an item
pub record Handed (b : ObjId) (with_values : Visit → Passed) (held : Held) (v : Visit) (t : Turn)
    (Rest : Visit → Type 0) : Type 0 where
  pub item : Value
  pub site : Site
  pub there : (passed held v).item ≡ Some item
  pub called : call_of t.wanted.plan ≡ Some (b, args_of (with_values (record (with_source v (passed held v)) { item = item })))
  pub asked : t.wanted.held ≡ (passed held v).held
  pub rest : Rest (at_item v (passed held v) item site)

abbrev pub Course : ObjId → (Visit → Passed) → List Turn → Held → Visit → Value → Held → Type 0
Course b with_values [] held v r after = Over held v r after
Course b with_values (t ∷ ts) held v r after = Handed b with_values held v t
    (λ u. Further (λ h w. Course b with_values ts h w r after) ts r after (heard t.held u t.answer))

-- What a method has to be like for that.

abbrev pub Settled : Wish → Type 0
Settled (wish.Ends x) = Unit {0}
Settled (wish.Fails c) = Unit {0}
Settled (wish.Raises e) = ⊥
Settled (wish.Calls b) = ⊥
Settled (wish.Asks recv argument) = ⊥

abbrev pub KeepsBy : (Visit → Type 0) → Visit → Option Wish → Type 0
KeepsBy Fits v None = Fits v
KeepsBy Fits v (Some (wish.Ends x)) = Unit {0}
KeepsBy Fits v (Some (wish.Fails c)) = ⊥
KeepsBy Fits v (Some (wish.Raises e)) = ⊥
KeepsBy Fits v (Some (wish.Calls b)) = ⊥
KeepsBy Fits v (Some (wish.Asks recv argument)) = ⊥

abbrev pub Keeps : (Visit → Type 0) → Heard → Type 0
Keeps Fits (going a) = KeepsBy Fits a.visit a.wish
Keeps Fits (failing c k) = Unit {0}

pub record Plain (Fits : Visit → Type 0) (b : ObjId) (with_values : Visit → Passed) : Type 0 where
  pub unasked : (v : Visit) → Fits v → v.wish ≡ None
  pub asks : (held : Held) (v : Visit) → Fits v → asked held v ≡ visited held v
  pub calls : (held : Held) (v : Visit) (p : sources.Passed Source) (x : Value) → Fits v
      → ask_of v.task held (record (with_source v p) { item = x }) x
      ≡ wishes held (record (with_source v p) { item = x })
      (wish.Calls (record { callee = b; passed = with_values (record (with_source v p) { item = x }) }))
  pub hears : (held : Held) (v : Visit) (p : sources.Passed Source) (x : Value) (site : Site) (a : Value) → Fits v
      → Keeps Fits (heard held (at_item v p x site) a)
  pub ends : (held : Held) (v : Visit) (p : sources.Passed Source) (w : Wish) (u : Visit) (later : Held) → Fits v
      → Ends v.task held (with_source v p) w u later → Settled w

-- Runs that stand still.

pub no_turn : (t : Turn) (p : Planned Stage) (Rest : Planned Stage → Type 0) → waiting p.plan ≡ None → t.wanted ≡ p
    → Leads t Rest → ⊥
no_turn t p Rest none same leads = none_some leads.stage
    (sym none ∙ ap (λ (x : Planned Stage). waiting x.plan) (sym same) ∙ leads.waits)

-- a run that has given its value is at its end
pub given : (ts : List Turn) (k : Held) (x r : Value) (after : Held) → Runs (gives k x) ts (gives after r)
    → (ts ≡ []) × (r ≡ x) × (after ≡ k)
given [] k x r after runs = (refl, sym (same_value k after x r runs), sym (same_held k after x r runs))
given (t ∷ ts) k x r after runs =
    absurd (no_turn t (gives k x) (λ next. Runs next ts (gives after r)) refl runs.0 runs.1)

-- and so is one that has failed, which gives none
pub refused : (ts : List Turn) (k : Held) (c : Cause) (r : Value) (after : Held)
    → Runs (refuses k c) ts (gives after r) → ⊥
refused [] k c r after runs = not_given (refuses k c) after r refl runs
refused (t ∷ ts) k c r after runs =
    no_turn t (refuses k c) (λ next. Runs next ts (gives after r)) refl runs.0 runs.1

abbrev lifted : Planned over_items.Stage → Planned Stage
lifted p = as_moved items p

-- by a wish that ends

pub ended : (ts : List Turn) (k : Held) (u : Visit) (x r : Value) (after : Held) (p : Planned over_items.Stage)
    → Comes k u (wish.Ends x) p → Runs (lifted p) ts (gives after r) → (ts ≡ []) × (r ≡ x) × (after ≡ k)
ended ts k u x r after p comes runs = given ts k x r after
    (subst (λ (q : Planned over_items.Stage). Runs (lifted q) ts (gives after r)) (arrives k u (wish.Ends x) p comes) runs)

failed : (ts : List Turn) (k : Held) (u : Visit) (c : Cause) (r : Value) (after : Held)
    (p : Planned over_items.Stage) → Comes k u (wish.Fails c) p → Runs (lifted p) ts (gives after r) → ⊥
failed ts k u c r after p comes runs = refused ts k c r after
    (subst (λ (q : Planned over_items.Stage). Runs (lifted q) ts (gives after r)) (arrives k u (wish.Fails c) p comes) runs)

-- By what was heard.

abbrev Recursion : (Visit → Type 0) → (Held → Visit → Type 0) → List Turn → Value → Held → Type 0
Recursion Fits Rest ts r after = (h : Held) (w : Visit) (p : Planned over_items.Stage) → Fits w → Begins h w p
    → Runs (lifted p) ts (gives after r) → Rest h w

by_wish : (Fits : Visit → Type 0) (Rest : Held → Visit → Type 0) (ts : List Turn) (r : Value) (after : Held)
    (a : Wished) (o : Option Wish) (w : Wish) (u : Visit) (later : Held) (p : Planned over_items.Stage)
    → Recursion Fits Rest ts r after → KeepsBy Fits a.visit o → HearsBy a.held a.visit o w u later
    → Comes later u w p → Runs (lifted p) ts (gives after r) → OrEnds Rest ts r after a o
by_wish Fits Rest ts r after a None w u later p rest keeps hears comes runs =
    rest a.held a.visit p keeps (begins a.held later a.visit u w p hears comes) runs
by_wish Fits Rest ts r after a (Some (wish.Ends x)) w u later p rest keeps hears comes runs =
    ended ts a.held a.visit x r after p
    (comes_of (wishes a.held a.visit (wish.Ends x)) later u w p hears comes) runs
by_wish Fits Rest ts r after a (Some (wish.Fails c)) w u later p rest keeps hears comes runs = keeps
by_wish Fits Rest ts r after a (Some (wish.Raises e)) w u later p rest keeps hears comes runs = keeps
by_wish Fits Rest ts r after a (Some (wish.Calls b)) w u later p rest keeps hears comes runs = keeps
by_wish Fits Rest ts r after a (Some (wish.Asks recv argument)) w u later p rest keeps hears comes runs = keeps

by_heard : (Fits : Visit → Type 0) (Rest : Held → Visit → Type 0) (ts : List Turn) (r : Value) (after : Held)
    (x : Heard) (w : Wish) (u : Visit) (later : Held) (p : Planned over_items.Stage)
    → Recursion Fits Rest ts r after → Keeps Fits x → HearsOf x w u later
    → Comes later u w p → Runs (lifted p) ts (gives after r) → Further Rest ts r after x
by_heard Fits Rest ts r after (going a) w u later p rest keeps hears comes runs =
    by_wish Fits Rest ts r after a a.wish w u later p rest keeps hears comes runs
by_heard Fits Rest ts r after (failing c k) w u later p rest keeps hears comes runs =
    failed ts later u c r after p (subst (λ (x : Wish). Comes later u x p) hears.0 comes) runs

-- By whether an item is left.

settles : (ts : List Turn) (r : Value) (after : Held) (w : Wish) (u : Visit) (later : Held)
    (p : Planned over_items.Stage) → Settled w → Comes later u w p → Runs (lifted p) ts (gives after r)
    → (ts ≡ []) × (w ≡ wish.Ends r) × (later ≡ after)
settles ts r after (wish.Ends x) u later p settled comes runs =
    let e = ended ts later u x r after p comes runs in
    (e.0, ap (λ (y : Value). wish.Ends y) (sym e.1), sym e.2)
settles ts r after (wish.Fails c) u later p settled comes runs = absurd (failed ts later u c r after p comes runs)
settles ts r after (wish.Raises e) u later p settled comes runs = absurd settled
settles ts r after (wish.Calls b) u later p settled comes runs = absurd settled
settles ts r after (wish.Asks recv argument) u later p settled comes runs = absurd settled

-- none is left: the run is at its end

over : (held : Held) (v : Visit) (r : Value) (after : Held) (w : Wish) (u : Visit) (later : Held)
    → (passed held v).item ≡ None → Ends v.task (passed held v).held (with_source v (passed held v)) w u later
    → w ≡ wish.Ends r → later ≡ after → Over held v r after
over held v r after w u later none ends same left = record {
  none = none;
  last = u;
  ends = subst (λ (h : Held). Ends v.task (passed held v).held (with_source v (passed held v)) (wish.Ends r) u h) left
      (subst (λ (x : Wish). Ends v.task (passed held v).held (with_source v (passed held v)) x u later) same ends);
}

-- an item is left: the block is called with it, and its answer heard

abbrev pub called_with : ObjId → (Visit → Passed) → Visit → sources.Passed Source → Value → Site → Planned Stage
called_with b with_values v p x site = record {
  plan = calls (items (over_items.visits (at_item v p x site))) b (args_of (with_values (record (with_source v p) { item = x }))) None;
  held = p.held;
}

pub waits_for : (t : Turn) (p : Planned Stage) (s stage : Stage) → t.wanted ≡ p → waiting p.plan ≡ Some s
    → waiting t.wanted.plan ≡ Some stage → stage ≡ s
waits_for t p s stage same waits is = some_same stage s
    (sym is ∙ ap (λ (x : Planned Stage). waiting x.plan) same ∙ waits)

abbrev NextIn : Held → Visit → Value → Planned over_items.Stage → Type 0
NextIn held v a p = NextBy held v a v.wish p

pub heard_of : (held : Held) (v : Visit) (a : Value) (next : Planned Stage) (stage : Stage) → v.wish ≡ None
    → stage ≡ items (over_items.visits v) → FollowsOf held stage a next
    → Unmoved items (λ (p : Planned over_items.Stage). GoesOn held v a p) next
heard_of held v a next stage none same follows =
    let there = unmoved items (over_rows.GoesOn held (over_items.visits v) a) next
    (subst (λ (s : Stage). FollowsOf held s a next) same follows) in
    record {
      inner = there.inner;
      same = there.same;
      meant = subst (λ (o : Option Wish). NextBy held v a o there.inner) none there.meant;
    }

handed : (Fits : Visit → Type 0) (b : ObjId) (with_values : Visit → Passed)
    (plain : Plain Fits b with_values) (held : Held) (v : Visit) (x : Value) (t : Turn) (ts : List Turn) (r : Value)
    (after : Held) (Rest : Held → Visit → Type 0) (site : Site)
    → Fits v → (passed held v).item ≡ Some x → Recursion Fits Rest ts r after
    → t.wanted ≡ called_with b with_values v (passed held v) x site
    → Leads t (λ next. Runs next ts (gives after r))
    → Handed b with_values held v t (λ u. Further Rest ts r after (heard t.held u t.answer))
handed Fits b with_values plain held v x t ts r after Rest site fits there rest same leads =
    let u : Visit = at_item v (passed held v) x site in
    let stage = waits_for t (called_with b with_values v (passed held v) x site) (items (over_items.visits u)) leads.stage
    same refl leads.waits in
    let next = heard_of t.held u t.answer leads.next leads.stage (plain.unasked v fits) stage leads.follows in
    let g = gone t.held u t.answer next.inner next.meant in
    let runs = subst (λ (q : Planned Stage). Runs q ts (gives after r)) next.same leads.further in
    record {
      item = x;
      site = site;
      there = there;
      called = ap (λ (q : Planned Stage). call_of q.plan) same;
      asked = ap (λ (q : Planned Stage). q.held) same;
      rest = by_heard Fits Rest ts r after (heard t.held u t.answer) g.wish g.visit g.later next.inner rest
          (plain.hears t.held v (passed held v) x site t.answer fits) g.hears g.comes runs;
    }

-- the course over the turns

abbrev Whole : (Visit → Type 0) → ObjId → (Visit → Passed) → List Turn → Value → Held → Type 0
Whole Fits b with_values ts r after = Recursion Fits (λ h w. Course b with_values ts h w r after) ts r after

-- where an item was passed, or none
abbrev wanted_of : Held → Visit → Option Value → Wished
wanted_of held v o = with_item (passed held v).held (with_source v (passed held v)) o

calls_plan : (Fits : Visit → Type 0) (b : ObjId) (with_values : Visit → Passed)
    (plain : Plain Fits b with_values) (held : Held) (v : Visit) (x : Value) (w : Wish) (u : Visit) (later : Held)
    (p : Planned over_items.Stage) → Fits v → WantsOf (wanted_of held v (Some x)) w u later → Comes later u w p
    → Calling (passed held v).held (record (with_source v (passed held v)) { item = x })
    (record { callee = b; passed = with_values (record (with_source v (passed held v)) { item = x }) }) p
calls_plan Fits b with_values plain held v x w u later p fits wants comes =
    let m : Visit = record (with_source v (passed held v)) { item = x } in
    let call : Wish = wish.Calls (record { callee = b; passed = with_values (record (with_source v (passed held v)) { item = x }) }) in
    let wants2 = subst (λ (a : Wished). WantsOf a w u later)
    (plain.calls (passed held v).held v (passed held v) x fits) wants in
    arrives (passed held v).held m call p
    (comes_of (wishes (passed held v).held m call) later u w p wants2 comes)

course_at : (Fits : Visit → Type 0) (b : ObjId) (with_values : Visit → Passed)
    (plain : Plain Fits b with_values) (ts : List Turn) (r : Value) (after : Held)
    → ((t : Turn) (us : List Turn) → ts ≡ t ∷ us → Whole Fits b with_values us r after)
    → (held : Held) (v : Visit) (o : Option Value) (w : Wish) (u : Visit) (later : Held) (p : Planned over_items.Stage)
    → Fits v → (passed held v).item ≡ o → WantsOf (wanted_of held v o) w u later → Comes later u w p
    → Runs (lifted p) ts (gives after r) → Course b with_values ts held v r after
course_at Fits b with_values plain [] r after rest held v None w u later p fits there wants comes runs =
    let s = settles [] r after w u later p
    (plain.ends (passed held v).held v (passed held v) w u later fits wants) comes runs in
    over held v r after w u later there wants s.1 s.2
course_at Fits b with_values plain (t ∷ ts) r after rest held v None w u later p fits there wants comes runs =
    absurd (not_cons t ts (settles (t ∷ ts) r after w u later p
    (plain.ends (passed held v).held v (passed held v) w u later fits wants) comes runs).0)
course_at Fits b with_values plain [] r after rest held v (Some x) w u later p fits there wants comes runs =
    let c = calls_plan Fits b with_values plain held v x w u later p fits wants comes in
    absurd (not_given (called_with b with_values v (passed held v) x c.site) after r refl
    (ap lifted (sym c.same) ∙ runs))
course_at Fits b with_values plain (t ∷ ts) r after rest held v (Some x) w u later p fits there wants comes runs =
    let c = calls_plan Fits b with_values plain held v x w u later p fits wants comes in
    handed Fits b with_values plain held v x t ts r after (λ h k. Course b with_values ts h k r after) c.site fits there
    (rest t ts refl) (runs.0 ∙ ap lifted c.same) runs.1

course_step : (Fits : Visit → Type 0) (b : ObjId) (with_values : Visit → Passed)
    (plain : Plain Fits b with_values) (ts : List Turn) (r : Value) (after : Held)
    → ((t : Turn) (us : List Turn) → ts ≡ t ∷ us → Whole Fits b with_values us r after)
    → Whole Fits b with_values ts r after
course_step Fits b with_values plain ts r after rest = λ held v p fits comes runs.
    let g = begun held v p comes in
    course_at Fits b with_values plain ts r after rest held v (passed held v).item g.wish g.visit g.later p fits refl
    (subst (λ (a : Wished). WantsOf a g.wish g.visit g.later) (plain.asks held v fits) g.wants) g.comes runs

pub course : (Fits : Visit → Type 0) (b : ObjId) (with_values : Visit → Passed)
    (plain : Plain Fits b with_values) (ts : List Turn) (r : Value) (after : Held) → Whole Fits b with_values ts r after
course Fits b with_values plain [] r after =
    course_step Fits b with_values plain [] r after (λ t us e. absurd (not_cons t us (sym e)))
course Fits b with_values plain (t ∷ ts) r after = course_step Fits b with_values plain (t ∷ ts) r after
    (λ u us e. subst (λ (xs : List Turn). Whole Fits b with_values xs r after) (tail_same t u ts us e)
    (course Fits b with_values plain ts r after))
