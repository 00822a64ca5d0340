-- What a plan that came shows of how it came.
use Rattle.std.proofs.Common.{◌≡◌, refl, sym, ap, subst, ◌∙◌}
use Rattle.std.specs.Prelude.{Option, Some, None}
use Rattle.rb_value.specs.declared.value.Value.{Value}
use Rattle.heap.specs.declared.finding.Site.{Site}
use Rattle.rb_store.specs.Held.{Held}
use Rattle.def_plans.specs.Plan.{Plan, Planned, finishes, fails, raises, sends, calls, writes, reads, resumes, yields, gives, refuses}
use Rattle.core_calls.specs.declared.beat.Beat.{Beat}
use Rattle.iter_items.specs.declared.visit.Visit.{Visit}
use Rattle.iter_items.specs.declared.wish.Wish.{Wish}
use Rattle.iter_items.specs.declared.wish.Wish.TheVariants as wish
use Rattle.iter_items.specs.Asking.{Wished}
use Rattle.iter_items.specs.Driving.{Wants, Hears, Comes, stops, raises_at_once, goes_on, at_site, planned, Begins, begins, GoesOn, goes}
use Rattle.iter_items.specs.Moved.{as_moved, Moved, moves}
use Rattle.iter_items.specs.Stage as over_items
use Rattle.items_laws.proofs.Small.{some_same, none_some}

pub record Unmoved {S T : Type 0} (as_other : S → T) (Meant : Planned S → Type 0) (q : Planned T) : Type 0 where
  pub inner : Planned S
  pub same : q ≡ as_moved as_other inner
  pub meant : Meant inner

pub unmoved : {S T : Type 0} (as_other : S → T) (Meant : Planned S → Type 0) (q : Planned T) → Moved as_other Meant q
    → Unmoved as_other Meant q
unmoved as_other Meant q (moves p m) = record { inner = p; same = refl; meant = m }

pub record Begun (held : Held) (v : Visit) (p : Planned over_items.Stage) : Type 0 where
  pub later : Held
  pub visit : Visit
  pub wish : Wish
  pub wants : Wants held v wish visit later
  pub comes : Comes later visit wish p

pub begun : (held : Held) (v : Visit) (p : Planned over_items.Stage) → Begins held v p → Begun held v p
begun held v p (begins h later x u w q wants comes) =
    record { later = later; visit = u; wish = w; wants = wants; comes = comes }

pub record Gone (held : Held) (v : Visit) (answer : Value) (p : Planned over_items.Stage) : Type 0 where
  pub later : Held
  pub visit : Visit
  pub wish : Wish
  pub hears : Hears held v answer wish visit later
  pub comes : Comes later visit wish p

pub gone : (held : Held) (v : Visit) (answer : Value) (p : Planned over_items.Stage) → GoesOn held v answer p
    → Gone held v answer p
gone held v answer p (goes h later x u a w q hears comes) =
    record { later = later; visit = u; wish = w; hears = hears; comes = comes }

-- the call that comes, at whatever site
pub record Calling (held : Held) (v : Visit) (b : Beat) (p : Planned over_items.Stage) : Type 0 where
  pub site : Site
  pub same : p ≡ planned held (at_site v site) (wish.Calls b)

-- what a wish that asks no value comes to
abbrev pub Arrives : Held → Visit → Wish → Planned over_items.Stage → Type 0
Arrives held v (wish.Ends u) p = p ≡ gives held u
Arrives held v (wish.Fails c) p = p ≡ refuses held c
Arrives held v (wish.Raises e) p = Unit {0}
Arrives held v (wish.Calls b) p = Calling held v b p
Arrives held v (wish.Asks recv argument) p = Unit {0}

arrived : (held : Held) (v : Visit) (s : Site) (w : Wish) → Arrives held v w (planned held (at_site v s) w)
arrived held v s (wish.Ends u) = refl
arrived held v s (wish.Fails c) = refl
arrived held v s (wish.Raises e) = tt
arrived held v s (wish.Calls b) = record { site = s; same = refl }
arrived held v s (wish.Asks recv argument) = tt

pub arrives : (held : Held) (v : Visit) (w : Wish) (p : Planned over_items.Stage) → Comes held v w p
    → Arrives held v w p
arrives held v w p (stops h u s x) = arrived h u s x
arrives held v w p (raises_at_once h after u recv argument e at_once) = tt
arrives held v w p (goes_on h after later u x s recv argument answer y q at_once hears comes) = tt

-- what stands in a wish that came of a visit
abbrev ComesBy : Held → Visit → Option Wish → Planned over_items.Stage → Type 0
ComesBy held v None p = Unit {0}
ComesBy held v (Some w) p = Comes held v w p

abbrev ComesOf : Wished → Planned over_items.Stage → Type 0
ComesOf a p = ComesBy a.held a.visit a.wish p

pub comes_of : (a : Wished) (held : Held) (v : Visit) (w : Wish) (p : Planned over_items.Stage)
    → a ≡ record { wish = Some w; visit = v; held = held } → Comes held v w p → ComesBy a.held a.visit a.wish p
comes_of a held v w p e c = subst (λ (x : Wished). ComesOf x p) (sym e) c

-- Plans that end are no others.

abbrev value_of : {S : Type 0} → Plan S → Option Value
value_of (finishes v) = Some v
value_of (fails c) = None
value_of (raises e) = None
value_of (sends s v name args block public) = None
value_of (calls s p args block) = None
value_of (writes s bytes) = None
value_of (reads s) = None
value_of (resumes s f args) = None
value_of (yields s args) = None

pub same_value : {S : Type 0} (h k : Held) (v u : Value) → gives {S = S} h v ≡ gives k u → v ≡ u
same_value {S = S} h k v u e = some_same v u (ap (λ (p : Planned S). value_of p.plan) e)

pub same_held : {S : Type 0} (h k : Held) (v u : Value) → gives {S = S} h v ≡ gives k u → h ≡ k
same_held {S = S} h k v u e = ap (λ (p : Planned S). p.held) e

pub not_given : {S : Type 0} (p : Planned S) (h : Held) (v : Value) → value_of p.plan ≡ None → p ≡ gives h v → ⊥
not_given {S = S} p h v none e = none_some v (sym none ∙ ap (λ (q : Planned S). value_of q.plan) e)
