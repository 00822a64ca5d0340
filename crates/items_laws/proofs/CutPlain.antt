-- Visits that only call their block with each item, and are left while it is called.
use Rattle.std.proofs.Common.{◌≡◌, refl, sym, ap, subst, ◌∙◌, List, [], ◌∷◌}
use Rattle.std.specs.Prelude.{Option, Some, None}
use Rattle.rb_value.specs.declared.value.Value.{Value}
use Rattle.rb_value.specs.declared.value.ObjId.{ObjId}
use Rattle.heap.specs.declared.finding.Site.{Site}
use Rattle.rb_store.specs.Held.{Held}
use Rattle.core_calls.specs.declared.beat.Passed.{Passed}
use Rattle.core_calls.specs.Passing.{args_of}
use Rattle.def_plans.specs.Plan.{Planned}
use Rattle.iter_items.specs.declared.visit.Visit.{Visit}
use Rattle.iter_items.specs.declared.wish.Wish.{Wish}
use Rattle.iter_items.specs.declared.wish.Wish.TheVariants as wish
use Rattle.iter_items.specs.Asking.{Wished, wishes, passed, with_item, with_source}
use Rattle.iter_items.specs.Driving.{WantsOf, HearsBy, HearsOf, Comes, Begins, begins}
use Rattle.iter_items.specs.Hearing.{Heard, going, failing, heard}
use Rattle.iter_items.specs.Moved.{as_moved}
use Rattle.iter_items.specs.Stage as over_items
use Rattle.core_iter.specs.Stage.{Stage, items}
use Rattle.items_laws.specs.Run.{Turn, Leads, Runs, waiting}
use Rattle.items_laws.specs.Items.{call_of}
use Rattle.items_laws.proofs.Course.{Handed, Plain, KeepsBy, Keeps, at_item, called_with, waits_for, heard_of}
use Rattle.items_laws.proofs.Cut.{dead, stands}
use Rattle.items_laws.proofs.Inversion.{begun, gone, Calling, arrives, comes_of}
use Rattle.items_laws.proofs.Small.{not_cons, tail_same}

abbrev lifted : Planned over_items.Stage → Planned Stage
lifted p = as_moved items p

-- the call that isn't answered
pub record LastCall (b : ObjId) (with_values : Visit → Passed) (held : Held) (v : Visit) (last : Planned Stage) : Type 0 where
  pub item : Value
  pub there : (passed held v).item ≡ Some item
  pub called : call_of last.plan
      ≡ Some (b, args_of (with_values (record (with_source v (passed held v)) { item = item })))
  pub left : last.held ≡ (passed held v).held

-- what was heard leads on
abbrev pub GoesBy : (Held → Visit → Type 0) → Wished → Option Wish → Type 0
GoesBy Rest a None = Rest a.held a.visit
GoesBy Rest a (Some w) = ⊥

abbrev pub Goes : (Held → Visit → Type 0) → Heard → Type 0
Goes Rest (going a) = GoesBy Rest a a.wish
Goes Rest (failing c k) = ⊥

abbrev pub CutCourse : ObjId → (Visit → Passed) → List Turn → Held → Visit → Planned Stage → Type 0
CutCourse b with_values [] held v last = LastCall b with_values held v last
CutCourse b with_values (t ∷ ts) held v last = Handed b with_values held v t
    (λ u. Goes (λ h w. CutCourse b with_values ts h w last) (heard t.held u t.answer))

abbrev Recursion : (Visit → Type 0) → (Held → Visit → Type 0) → List Turn → Planned Stage → Type 0
Recursion Fits Rest ts last = (h : Held) (w : Visit) (p : Planned over_items.Stage) → Fits w → Begins h w p
    → Runs (lifted p) ts last → Rest h w

-- By what was heard.

by_wish : (Fits : Visit → Type 0) (Rest : Held → Visit → Type 0) (ts : List Turn) (last : Planned Stage) (stage : Stage)
    → waiting last.plan ≡ Some stage → (a : Wished) (o : Option Wish) (w : Wish) (u : Visit) (later : Held)
    (p : Planned over_items.Stage) → Recursion Fits Rest ts last → KeepsBy Fits a.visit o
    → HearsBy a.held a.visit o w u later → Comes later u w p → Runs (lifted p) ts last → GoesBy Rest a o
by_wish Fits Rest ts last stage waits a None w u later p rest keeps hears comes runs =
    rest a.held a.visit p keeps (begins a.held later a.visit u w p hears comes) runs
by_wish Fits Rest ts last stage waits a (Some (wish.Ends x)) w u later p rest keeps hears comes runs =
    dead (lifted p) last ts stage (stands a.held a.visit (wish.Ends x) p tt
    (comes_of (wishes a.held a.visit (wish.Ends x)) later u w p hears comes)) waits runs
by_wish Fits Rest ts last stage waits a (Some (wish.Fails c)) w u later p rest keeps hears comes runs = keeps
by_wish Fits Rest ts last stage waits a (Some (wish.Raises e)) w u later p rest keeps hears comes runs = keeps
by_wish Fits Rest ts last stage waits a (Some (wish.Calls b)) w u later p rest keeps hears comes runs = keeps
by_wish Fits Rest ts last stage waits a (Some (wish.Asks recv argument)) w u later p rest keeps hears comes runs = keeps

by_heard : (Fits : Visit → Type 0) (Rest : Held → Visit → Type 0) (ts : List Turn) (last : Planned Stage) (stage : Stage)
    → waiting last.plan ≡ Some stage → (x : Heard) (w : Wish) (u : Visit) (later : Held) (p : Planned over_items.Stage)
    → Recursion Fits Rest ts last → Keeps Fits x → HearsOf x w u later → Comes later u w p → Runs (lifted p) ts last
    → Goes Rest x
by_heard Fits Rest ts last stage waits (going a) w u later p rest keeps hears comes runs =
    by_wish Fits Rest ts last stage waits a a.wish w u later p rest keeps hears comes runs
by_heard Fits Rest ts last stage waits (failing c k) w u later p rest keeps hears comes runs =
    dead (lifted p) last ts stage (stands later u (wish.Fails c) p tt
    (subst (λ (x : Wish). Comes later u x p) hears.0 comes)) waits runs

-- By the call.

handed : (Fits : Visit → Type 0) (b : ObjId) (with_values : Visit → Passed) (plain : Plain Fits b with_values) (held : Held)
    (v : Visit) (x : Value) (t : Turn) (ts : List Turn) (last : Planned Stage) (stage : Stage)
    → waiting last.plan ≡ Some stage → (Rest : Held → Visit → Type 0) (site : Site) → Fits v
    → (passed held v).item ≡ Some x → Recursion Fits Rest ts last
    → t.wanted ≡ called_with b with_values v (passed held v) x site → Leads t (λ next. Runs next ts last)
    → Handed b with_values held v t (λ u. Goes Rest (heard t.held u t.answer))
handed Fits b with_values plain held v x t ts last stage waits Rest site fits there rest same leads =
    let u : Visit = at_item v (passed held v) x site in
    let at = waits_for t (called_with b with_values v (passed held v) x site) (items (over_items.visits u)) leads.stage
    same refl leads.waits in
    let next = heard_of t.held u t.answer leads.next leads.stage (plain.unasked v fits) at leads.follows in
    let g = gone t.held u t.answer next.inner next.meant in
    let runs = subst (λ (q : Planned Stage). Runs q ts last) next.same leads.further in
    record {
      item = x;
      site = site;
      there = there;
      called = ap (λ (q : Planned Stage). call_of q.plan) same;
      asked = ap (λ (q : Planned Stage). q.held) same;
      rest = by_heard Fits Rest ts last stage waits (heard t.held u t.answer) g.wish g.visit g.later next.inner rest
          (plain.hears t.held v (passed held v) x site t.answer fits) g.hears g.comes runs;
    }

abbrev Whole : (Visit → Type 0) → ObjId → (Visit → Passed) → List Turn → Planned Stage → Type 0
Whole Fits b with_values ts last = Recursion Fits (λ h w. CutCourse b with_values ts h w last) ts last

called_at : (Fits : Visit → Type 0) (b : ObjId) (with_values : Visit → Passed) (plain : Plain Fits b with_values)
    (ts : List Turn) (last : Planned Stage) (stage : Stage) → waiting last.plan ≡ Some stage
    → ((t : Turn) (us : List Turn) → ts ≡ t ∷ us → Whole Fits b with_values us last)
    → (held : Held) (v : Visit) (x : Value) (p : Planned over_items.Stage) → Fits v → (passed held v).item ≡ Some x
    → Calling (passed held v).held (record (with_source v (passed held v)) { item = x })
    (record { callee = b; passed = with_values (record (with_source v (passed held v)) { item = x }) }) p
    → Runs (lifted p) ts last → CutCourse b with_values ts held v last
called_at Fits b with_values plain [] last stage waits rest held v x p fits there c runs =
    let same = sym (ap lifted c.same) ∙ runs in
    record {
      item = x;
      there = there;
      called = ap (λ (q : Planned Stage). call_of q.plan) (sym same);
      left = ap (λ (q : Planned Stage). q.held) (sym same);
    }
called_at Fits b with_values plain (t ∷ ts) last stage waits rest held v x p fits there c runs =
    handed Fits b with_values plain held v x t ts last stage waits (λ h k. CutCourse b with_values ts h k last) c.site fits
    there (rest t ts refl) (runs.0 ∙ ap lifted c.same) runs.1

-- where an item was passed, or none
by_item : (Fits : Visit → Type 0) (b : ObjId) (with_values : Visit → Passed) (plain : Plain Fits b with_values)
    (ts : List Turn) (last : Planned Stage) (stage : Stage) → waiting last.plan ≡ Some stage
    → ((t : Turn) (us : List Turn) → ts ≡ t ∷ us → Whole Fits b with_values us last)
    → (held : Held) (v : Visit) (o : Option Value) (w : Wish) (u : Visit) (later : Held) (p : Planned over_items.Stage)
    → Fits v → (passed held v).item ≡ o
    → WantsOf (with_item (passed held v).held (with_source v (passed held v)) o) w u later → Comes later u w p
    → Runs (lifted p) ts last → CutCourse b with_values ts held v last
by_item Fits b with_values plain ts last stage waits rest held v None w u later p fits there wants comes runs =
    absurd (dead (lifted p) last ts stage
    (stands later u w p (plain.ends (passed held v).held v (passed held v) w u later fits wants) comes) waits runs)
by_item Fits b with_values plain ts last stage waits rest held v (Some x) w u later p fits there wants comes runs =
    let m : Visit = record (with_source v (passed held v)) { item = x } in
    let call : Wish = wish.Calls (record { callee = b; passed = with_values m }) in
    called_at Fits b with_values plain ts last stage waits rest held v x p fits there
    (arrives (passed held v).held m call p (comes_of (wishes (passed held v).held m call) later u w p
    (subst (λ (a : Wished). WantsOf a w u later) (plain.calls (passed held v).held v (passed held v) x fits) wants) comes))
    runs

cut_step : (Fits : Visit → Type 0) (b : ObjId) (with_values : Visit → Passed) (plain : Plain Fits b with_values)
    (ts : List Turn) (last : Planned Stage) (stage : Stage) → waiting last.plan ≡ Some stage
    → ((t : Turn) (us : List Turn) → ts ≡ t ∷ us → Whole Fits b with_values us last) → Whole Fits b with_values ts last
cut_step Fits b with_values plain ts last stage waits rest = λ held v p fits comes runs.
    let g = begun held v p comes in
    by_item Fits b with_values plain ts last stage waits rest held v (passed held v).item g.wish g.visit g.later p fits refl
    (subst (λ (a : Wished). WantsOf a g.wish g.visit g.later) (plain.asks held v fits) g.wants) g.comes runs

pub cut_plain : (Fits : Visit → Type 0) (b : ObjId) (with_values : Visit → Passed) (plain : Plain Fits b with_values)
    (ts : List Turn) (last : Planned Stage) (stage : Stage) → waiting last.plan ≡ Some stage
    → Whole Fits b with_values ts last
cut_plain Fits b with_values plain [] last stage waits =
    cut_step Fits b with_values plain [] last stage waits (λ t us e. absurd (not_cons t us (sym e)))
cut_plain Fits b with_values plain (t ∷ ts) last stage waits = cut_step Fits b with_values plain (t ∷ ts) last stage waits
    (λ u us e. subst (λ (xs : List Turn). Whole Fits b with_values xs last) (tail_same t u ts us e)
    (cut_plain Fits b with_values plain ts last stage waits))
