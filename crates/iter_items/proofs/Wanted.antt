-- What a visit wants, by what is asked and heard.
use Rattle.std.proofs.Common.{◌≡◌, refl, ap, sym, ◌∙◌, subst}
use Rattle.std.specs.Prelude.{Option, Some, None, Result, Ok, Err}
use Rattle.std.specs.declared.alloc.AllocError.{AllocError}
use Rattle.rb_value.specs.declared.value.Value.{Value}
use Rattle.rb_value.specs.declared.value.ObjId.{ObjId}
use Rattle.def_core.specs.declared.cause.Cause.{Cause}
use Rattle.rb_store.specs.Held.{Held}
use Rattle.run_values.specs.declared.given.Given.{Given}
use Rattle.run_values.specs.declared.given.Given.TheVariants.{Gives, Raises}
use Rattle.core_calls.specs.declared.beat.Beat.{Beat}
use Rattle.core_calls.specs.declared.plan.Plan as code
use Rattle.def_plans.specs.Plan.{Planned, Plans, Meets, raises}
use Rattle.iter_items.specs.declared.checks.Arguments.{Arguments}
use Rattle.iter_items.specs.declared.driving.Step.{Step}
use Rattle.iter_items.specs.declared.driving.Step.TheVariants.{Further, Stops}
use Rattle.iter_items.specs.declared.row.Task.{Task}
use Rattle.iter_items.specs.declared.source.Source.{Source}
use Rattle.iter_items.specs.declared.state.ItemsState.{ItemsState}
use Rattle.iter_items.specs.declared.visit.Visit.{Visit}
use Rattle.iter_items.specs.declared.wish.Wish.{Wish}
use Rattle.iter_items.specs.declared.wish.Wish.TheVariants as wish
use Rattle.iter_items.specs.Asking.{Wished}
use Rattle.iter_items.specs.Hearing.{Heard, going, failing, IsWish}
use Rattle.iter_items.specs.Driving.{Wants, WantsOf, Hears, HearsOf, Ends, Comes, stops, raises_at_once, goes_on, at_site, at_once, planned, Begins, begins, BeginsWith, with_hash_for, hash_for, visit_of, GoesOn, goes, Next, NextBy, Beats, calls_block, keeps_wish}
use Rattle.iter_comparing.specs.Outright.{Stays}
use Rattle.iter_items.specs.Steps.{Leads, Halts, Steps}
use Rattle.iter_items.specs.Stage.{Stage, stage_of}

pub wants_some : (a : Wished) (w : Wish) (u : Visit) (h : Held) → a ≡ record { wish = Some w; visit = u; held = h }
    → WantsOf a w u h
wants_some a w u h e = subst (λ (x : Wished). WantsOf x w u h) (sym e) refl

pub wants_none : (a : Wished) (w : Wish) (m u : Visit) (k h : Held) → a ≡ record { wish = None; visit = m; held = k }
    → Ends m.task k m w u h → WantsOf a w u h
wants_none a w m u k h e x = subst (λ (y : Wished). WantsOf y w u h) (sym e) x

same_wish : (w : Wish) (c : Cause) → Some w ≡ Some (wish.Fails c) → w ≡ wish.Fails c
same_wish w c e = cc

no_wish : {A : Type 0} (c : Cause) → None ≡ Some (wish.Fails c) → A
no_wish c e = cc

going_some : (a : Wished) (w : Wish) (u : Visit) (h : Held) → a ≡ record { wish = Some w; visit = u; held = h }
    → HearsOf (going a) w u h
going_some a w u h e = subst (λ (x : Wished). HearsOf (going x) w u h) (sym e) refl

pub hears_some : (x : Heard) (w : Wish) (u : Visit) (h : Held) → IsWish x (Some w) u h → HearsOf x w u h
hears_some (going a) w u h e = going_some a w u h e
hears_some (failing c k) w u h e = (same_wish w c e.0, e.1)

going_none : (a : Wished) (w : Wish) (m u : Visit) (k h : Held) → a ≡ record { wish = None; visit = m; held = k }
    → Wants k m w u h → HearsOf (going a) w u h
going_none a w m u k h e x = subst (λ (y : Wished). HearsOf (going y) w u h) (sym e) x

pub hears_none : (x : Heard) (w : Wish) (m u : Visit) (k h : Held) → IsWish x None m k → Wants k m w u h
    → HearsOf x w u h
hears_none (going a) w m u k h e y = going_none a w m u k h e y
hears_none (failing c l) w m u k h e y = no_wish c e.0

pub halts_here : (held : Held) (v : Visit) (w : Wish) → Halts held v w held v w
halts_here held v w = stops held v v.site w

pub halts_still : (held after : Held) (v u : Visit) (w last : Wish) → w ≡ last → after ≡ held → u ≡ at_site v u.site
    → Halts held v w after u last
halts_still held after v u w last g e f = subst (λ (p : Planned Stage). Comes held v w p)
    (ap (λ (x : Visit). planned held x w) (sym f) ∙ ap (λ (h : Held). planned h u w) (sym e)
    ∙ ap (λ (x : Wish). planned after u x) g) (stops held v u.site w)

pub stays_none : (before after : Held) (o : Option Given) → o ≡ None → Stays before after o → after ≡ before
stays_none before after None e s = s
stays_none before after (Some g) e s = absurd cc

pub halts_raising : (held after : Held) (v u : Visit) (w : Wish) (recv argument : Value) (e : ObjId)
    → w ≡ wish.Asks recv argument → (Some (Raises e), after.store) ≡ at_once held.store v recv argument
    → Halts held v w after u (wish.Raises e)
halts_raising held after v u w recv argument e f h =
    subst (λ (x : Wish). Comes held v x (record { plan = raises e; held = after })) (sym f)
    (raises_at_once held after v recv argument e (sym h))

pub leads_on : (held mid later : Held) (v m u : Visit) (recv argument answer : Value) (w : Wish)
    → (Some (Gives answer), mid.store) ≡ at_once held.store v recv argument → m ≡ at_site v m.site
    → Hears mid m answer w u later → Leads held v (wish.Asks recv argument) later u w
leads_on held mid later v m u recv argument answer w h f x = λ p c.
    goes_on held mid later v u m.site recv argument answer w p (sym h)
    (subst (λ (y : Visit). Hears mid y answer w u later) f x) c

pub halts_after : (held mid after : Held) (v m u : Visit) (w next last : Wish) (s : Step) → Leads held v w mid m next
    → Steps mid m next after u s → s ≡ Stops last → Halts held v w after u last
halts_after held mid after v m u w next last s l h e =
    l (planned after u last) (subst (λ (x : Step). Steps mid m next after u x) e h)

pub leads_after : (held mid after : Held) (v m u : Visit) (w next last : Wish) (s : Step) → Leads held v w mid m next
    → Steps mid m next after u s → s ≡ Further last → Leads held v w after u last
leads_after held mid after v m u w next last s l k e =
    λ p c. l p (subst (λ (x : Step). Steps mid m next after u x) e k p c)

meets_as : (later : Held) (r : Result (code.Plan ItemsState) AllocError) (q : Planned Stage)
    (Meant : Planned Stage → Type 0) → Meant q → Plans stage_of later r q → Meets stage_of later r Meant
meets_as later (Ok p) q Meant h e = subst Meant e h
meets_as later (Err x) q Meant h e = tt

pub begins_so : (held mid after later : Held) (v u m : Visit) (w last : Wish)
    (r : Result (code.Plan ItemsState) AllocError)
    → Wants held v w u mid → Halts mid u w after m last → Plans stage_of later r (planned after m last)
    → Meets stage_of later r (Begins held v)
begins_so held mid after later v u m w last r wants halts plans = meets_as later r (planned after m last) (Begins held v)
    (begins held mid v u w (planned after m last) wants halts) plans

pub begins_with : (held h later : Held) (t : Task) (recv : Value) (s : Source) (given : Arguments)
    (block : Option ObjId) (x : Visit) (r : Result (code.Plan ItemsState) AllocError)
    → Meets stage_of later r (Begins h x) → h ≡ with_hash_for held t s
    → x ≡ visit_of t recv s (hash_for held t s) given block
    → Meets stage_of later r (BeginsWith held t recv s given block)
begins_with held h later t recv s given block x r m e f =
    subst (λ (y : Visit). Meets stage_of later r (Begins (with_hash_for held t s) y)) f
    (subst (λ (k : Held). Meets stage_of later r (Begins k x)) e m)

pub goes_so : (held mid after : Held) (v u m : Visit) (answer : Value) (w last : Wish)
    → Hears held v answer w u mid → Halts mid u w after m last → GoesOn held v answer (planned after m last)
goes_so held mid after v u m answer w last x h = goes held mid v u answer w (planned after m last) x h

pub goes_next : (held later : Held) (v : Visit) (answer : Value) (q : Planned Stage)
    (r : Result (code.Plan ItemsState) AllocError)
    → v.wish ≡ None → GoesOn held v answer q → Plans stage_of later r q → Meets stage_of later r (Next held v answer)
goes_next held later v answer q r n g e = meets_as later r q (Next held v answer)
    (subst (λ (o : Option Wish). NextBy held v answer o q) (sym n) g) e

pub wishes_next : (held later : Held) (v x : Visit) (answer : Value) (w : Wish)
    (r : Result (code.Plan ItemsState) AllocError)
    → v.wish ≡ Some w → x ≡ record v { wish = None } → Plans stage_of later r (planned held x w)
    → Meets stage_of later r (Next held v answer)
wishes_next held later v x answer w r n f e = meets_as later r (planned held x w) (Next held v answer)
    (subst (λ (o : Option Wish). NextBy held v answer o (planned held x w)) (sym n)
    (ap (λ (y : Visit). planned held y w) f)) e

pub calls_so : (held after : Held) (v u : Visit) (answer : Value) (w : Wish) (b : Beat)
    → GoesOn held v answer (planned after u w) → w ≡ wish.Calls b → Beats held v answer after u (Some b)
calls_so held after v u answer w b g e = calls_block held after v u answer b
    (subst (λ (x : Wish). GoesOn held v answer (planned after u x)) e g)

pub keeps_so : (held after : Held) (v u x : Visit) (answer : Value) (w : Wish)
    → GoesOn held v answer (planned after u w) → x ≡ record u { wish = Some w } → Beats held v answer after x None
keeps_so held after v u x answer w g e =
    subst (λ (y : Visit). Beats held v answer after y None) (sym e) (keeps_wish held after v u answer w g)
