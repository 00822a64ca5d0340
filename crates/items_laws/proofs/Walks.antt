-- Iterations that call their block again and again, by what comes next.
use Rattle.std.proofs.Common.{◌≡◌, refl, sym, ap, subst, List, [], ◌∷◌}
use Rattle.std.specs.Prelude.{Option, Some, None}
use Rattle.rb_value.specs.declared.value.Value.{Value}
use Rattle.rb_value.specs.declared.value.ObjId.{ObjId}
use Rattle.rb_store.specs.Held.{Held}
use Rattle.core_calls.specs.declared.beat.Beat.{Beat}
use Rattle.core_calls.specs.Passing.{args_of}
use Rattle.def_plans.specs.Plan.{Planned, gives}
use Rattle.core_iter.specs.declared.iteration.Iteration.{Iteration}
use Rattle.core_iter.specs.Sending.{Beaten, beat_or, call_beat, goes_on, with_one}
use Rattle.core_iter.specs.Stage.{Stage, own}
use Rattle.core_iter.specs.Rows.{GoesOn}
use Rattle.items_laws.specs.Run.{Turn, Leads, Runs}
use Rattle.items_laws.specs.Items.{call_of}
use Rattle.items_laws.proofs.Course.{given, waits_for}
use Rattle.items_laws.proofs.Inversion.{not_given}
use Rattle.items_laws.proofs.Small.{not_cons, tail_same}

-- what comes next, and where an iteration stands behind an answer, with the heap that it leaves then
pub record Walk (S : Type 0) : Type 1 where
  pub fits : S → Type 0
  pub as_state : S → Iteration
  pub beat : Held → S → Beaten S
  pub later : Held → S → Value → S
  pub left : Held → S → Value → Held
  pub ending : S → Value

-- of an iteration that leaves the heap as an answer left it
abbrev pub as_left : {S : Type 0} → Held → S → Value → Held
as_left held s a = held

abbrev pub plan_at : {S : Type 0} → Walk S → Held → S → Planned Stage
plan_at w held s = goes_on w.as_state (w.ending s) (w.beat held s)

-- the next plan says what comes next, for states that fit, and these stay so
pub record Goes {S : Type 0} (w : Walk S) : Type 0 where
  pub goes : (held : Held) (s : S) (a : Value) (p : Planned Stage) → w.fits s → GoesOn held (own (w.as_state s)) a p
      → p ≡ plan_at w (w.left held s a) (w.later held s a)
  pub beats : (held : Held) (s : S) → w.fits s → w.fits (w.beat held s).state
  pub later : (held : Held) (s : S) (a : Value) → w.fits s → w.fits (w.later held s a)

-- a call was made
pub record Called {S : Type 0} (w : Walk S) (held : Held) (s : S) (t : Turn) (Rest : Type 0) : Type 0 where
  pub call : Beat
  pub there : (w.beat held s).beat ≡ Some call
  pub called : call_of t.wanted.plan ≡ Some (call.callee, args_of call.passed)
  pub asked : t.wanted.held ≡ (w.beat held s).held
  pub rest : Rest

-- none is left
pub record Done {S : Type 0} (w : Walk S) (held : Held) (s : S) (r : Value) (after : Held) : Type 0 where
  pub none : (w.beat held s).beat ≡ None
  pub value : r ≡ w.ending s
  pub left : after ≡ (w.beat held s).held

abbrev pub Walks : {S : Type 0} → Walk S → List Turn → Held → S → Value → Held → Type 0
Walks w [] held s r after = Done w held s r after
Walks w (t ∷ ts) held s r after = Called w held s t (Walks w ts (w.left t.held (w.beat held s).state t.answer)
    (w.later t.held (w.beat held s).state t.answer) r after)

-- a call that was answered: by the answer comes the next plan
pub called_at : {S : Type 0} (w : Walk S) (goes : Goes w) (t : Turn) (held : Held) (s : S) (c : Beat)
    (Further : Planned Stage → Type 0) (Rest : Type 0) → w.fits s → (w.beat held s).beat ≡ Some c
    → t.wanted ≡ call_beat (w.beat held s).held (own (w.as_state (w.beat held s).state)) c → Leads t Further
    → (w.fits (w.later t.held (w.beat held s).state t.answer)
    → Further (plan_at w (w.left t.held (w.beat held s).state t.answer) (w.later t.held (w.beat held s).state t.answer))
    → Rest)
    → Called w held s t Rest
called_at w goes t held s c Further Rest fits there same leads rest =
    let b = w.beat held s in
    let plan = call_beat b.held (own (w.as_state b.state)) c in
    let stage = waits_for t plan (own (w.as_state b.state)) leads.stage same refl leads.waits in
    let fit = goes.beats held s fits in
    let next = goes.goes t.held b.state t.answer leads.next fit
    (subst (λ (x : Stage). GoesOn t.held x t.answer leads.next) stage leads.follows) in
    record {
      call = c;
      there = there;
      called = ap (λ (q : Planned Stage). call_of q.plan) same;
      asked = ap (λ (q : Planned Stage). q.held) same;
      rest = rest (goes.later t.held b.state t.answer fit) (subst Further next leads.further);
    }

walk_at : {S : Type 0} (w : Walk S) (goes : Goes w) (ts : List Turn) (held : Held) (s : S) (r : Value) (after : Held)
    (o : Option Beat)
    → ((t : Turn) (us : List Turn) → ts ≡ t ∷ us → (h : Held) (u : S) → w.fits u → Runs (plan_at w h u) us (gives after r)
    → Walks w us h u r after)
    → w.fits s
    → (w.beat held s).beat ≡ o
    → Runs (beat_or (w.beat held s).held (own (w.as_state (w.beat held s).state)) (w.ending s) o) ts (gives after r)
    → Walks w ts held s r after
walk_at w goes [] held s r after None rest fits there runs =
    let k = given [] (w.beat held s).held (w.ending s) r after runs in
    record { none = there; value = k.1; left = k.2 }
walk_at w goes (t ∷ ts) held s r after None rest fits there runs =
    absurd (not_cons t ts (given (t ∷ ts) (w.beat held s).held (w.ending s) r after runs).0)
walk_at w goes [] held s r after (Some c) rest fits there runs =
    absurd (not_given (call_beat (w.beat held s).held (own (w.as_state (w.beat held s).state)) c) after r refl runs)
walk_at w goes (t ∷ ts) held s r after (Some c) rest fits there runs =
    called_at w goes t held s c (λ next. Runs next ts (gives after r)) (Walks w ts
    (w.left t.held (w.beat held s).state t.answer) (w.later t.held (w.beat held s).state t.answer) r after) fits there runs.0
    runs.1 (λ fit run. rest t ts refl (w.left t.held (w.beat held s).state t.answer)
    (w.later t.held (w.beat held s).state t.answer) fit run)

pub walks : {S : Type 0} (w : Walk S) (goes : Goes w) (ts : List Turn) (held : Held) (s : S) (r : Value) (after : Held)
    → w.fits s → Runs (plan_at w held s) ts (gives after r) → Walks w ts held s r after
walks w goes [] held s r after fits runs =
    walk_at w goes [] held s r after (w.beat held s).beat (λ t us e. absurd (not_cons t us (sym e))) fits refl runs
walks {S = S} w goes (t ∷ ts) held s r after fits runs =
    walk_at w goes (t ∷ ts) held s r after (w.beat held s).beat
    (λ u us e. subst (λ (xs : List Turn). (h : Held) (x : S) → w.fits x → Runs (plan_at w h x) xs (gives after r)
    → Walks w xs h x r after) (tail_same t u ts us e) (λ h x fit run. walks w goes ts h x r after fit run)) fits refl runs

-- the one value that a call was made with

abbrev pub call_in : Option Beat → Option (ObjId × List Value)
call_in None = None
call_in (Some c) = Some (c.callee, args_of c.passed)

pub one_same : (b : ObjId) (x : Value) (c : Beat) → Some (with_one b x) ≡ Some c
    → call_in (Some c) ≡ call_in (Some (with_one b x))
one_same b x c e = ap call_in (sym e)
