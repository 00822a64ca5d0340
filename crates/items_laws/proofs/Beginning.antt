-- Walks that are left, as the beginnings of whole ones.
use Rattle.std.proofs.Common.{◌≡◌, ℕ, zero, suc, ◌≤◌, refl, subst, List, [], ◌∷◌, ◌++◌, length, arith}
use Rattle.std.specs.Prelude.{Option, Some, None}
use Rattle.rb_value.specs.declared.value.Value.{Value}
use Rattle.rb_value.specs.declared.value.Value.TheVariants.{False}
use Rattle.rb_store.specs.Held.{Held}
use Rattle.core_calls.specs.declared.beat.Beat.{Beat}
use Rattle.def_plans.specs.Plan.{Planned}
use Rattle.core_iter.specs.Sending.{call_beat}
use Rattle.core_iter.specs.Stage.{Stage, own}
use Rattle.items_laws.specs.Run.{Turn, Runs, waiting}
use Rattle.items_laws.specs.Beginning.{IsBeginning}
use Rattle.items_laws.proofs.CutWalks.{CutWalks, cut_walks}
use Rattle.items_laws.proofs.Walks.{Walk, Walks, Goes, plan_at}

-- turns that end a walk
pub record Ended {S : Type 0} (w : Walk S) (held : Held) (s : S) : Type 0 where
  pub turns : List Turn
  pub value : Value
  pub after : Held
  pub walk : Walks w turns held s value after

-- an answer by which a walk comes to its end
pub record Answered {S : Type 0} (w : Walk S) (s : S) : Type 0 where
  pub answer : Value
  pub heap : Held
  pub ended : Ended w (w.left heap s answer) (w.later heap s answer)

-- states of which each has such an answer
pub record Ending {S : Type 0} (w : Walk S) : Type 1 where
  pub holds : S → Type 0
  pub stays : (held h : Held) (s : S) (a : Value) → holds s → holds (w.later h (w.beat held s).state a)
  pub answered : (held : Held) (s : S) → holds s → Answered w (w.beat held s).state

-- a walk that goes on behind the turn that isn't answered
pub record Begun {S : Type 0} (w : Walk S) (ts : List Turn) (held : Held) (s : S) (last : Planned Stage) : Type 0 where
  pub turn : Turn
  pub further : List Turn
  pub value : Value
  pub after : Held
  pub wanted : turn.wanted ≡ last
  pub walk : Walks w (ts ++ turn ∷ further) held s value after

pub begun_walk : {S : Type 0} (w : Walk S) (e : Ending w) (ts : List Turn) (held : Held) (s : S) (last : Planned Stage)
    → e.holds s → CutWalks w ts held s last → Begun w ts held s last
begun_walk w e [] held s last holds c =
    let a = e.answered held s holds in
    record {
      turn = record { wanted = last; answer = a.answer; held = a.heap };
      further = a.ended.turns;
      value = a.ended.value;
      after = a.ended.after;
      wanted = refl;
      walk = record { call = c.call; there = c.there; called = c.called; asked = c.left; rest = a.ended.walk };
    }
begun_walk w e (t ∷ ts) held s last holds c =
    let b = begun_walk w e ts (w.left t.held (w.beat held s).state t.answer) (w.later t.held (w.beat held s).state t.answer)
    last (e.stays held t.held s t.answer holds) c.rest in
    record {
      turn = b.turn;
      further = b.further;
      value = b.value;
      after = b.after;
      wanted = b.wanted;
      walk = record { call = c.call; there = c.there; called = c.called; asked = c.asked; rest = b.walk };
    }

-- where such an answer is the last one
pub begun_at_once : {S : Type 0} (w : Walk S) (e : Ending w)
    → ((held : Held) (s : S) (holds : e.holds s) → (e.answered held s holds).ended.turns ≡ []) → (ts : List Turn)
    (held : Held) (s : S) (last : Planned Stage) (holds : e.holds s) (c : CutWalks w ts held s last)
    → (begun_walk w e ts held s last holds c).further ≡ []
unfolding begun_walk
begun_at_once w e once [] held s last holds c = once held s holds
begun_at_once w e once (t ∷ ts) held s last holds c =
    begun_at_once w e once ts (w.left t.held (w.beat held s).state t.answer) (w.later t.held (w.beat held s).state t.answer)
    last (e.stays held t.held s t.answer holds) c.rest

-- the run of a method that walks
pub cut_from : {S : Type 0} (w : Walk S) (goes : Goes w) (held : Held) (s : S) (ts : List Turn) (first last : Planned Stage)
    (stage : Stage) → w.fits s → waiting last.plan ≡ Some stage → first ≡ plan_at w held s → Runs first ts last
    → CutWalks w ts held s last
cut_from w goes held s ts first last stage fits waits begins runs =
    cut_walks w goes ts last stage waits held s fits (subst (λ (p : Planned Stage). Runs p ts last) begins runs)

pub is_beginning : {S : Type 0} (w : Walk S) (Whole : List Turn → Value → Held → Type 0) (ts : List Turn) (held : Held)
    (s : S) (last : Planned Stage) → (b : Begun w ts held s last) → Whole (ts ++ b.turn ∷ b.further) b.value b.after
    → IsBeginning Whole ts last
is_beginning w Whole ts held s last b whole = record {
  turn = b.turn;
  further = b.further;
  value = b.value;
  after = b.after;
  wanted = b.wanted;
  whole = whole;
}

-- Walks of which fewer and fewer turns are left.

pub record Finite {S : Type 0} (w : Walk S) : Type 1 where
  pub holds : S → Type 0
  pub left : S → ℕ
  pub stays : (held h : Held) (s : S) (a : Value) → holds s → holds (w.later h (w.beat held s).state a)
  pub fewer : (held h : Held) (s : S) (a : Value) (c : Beat) → holds s → (w.beat held s).beat ≡ Some c
      → suc (left (w.later h (w.beat held s).state a)) ≤ left s

abbrev pub EndsIn : {S : Type 0} (w : Walk S) → Finite w → ℕ → Type 0
EndsIn {S = S} w f n = (held : Held) (s : S) → f.holds s → f.left s ≤ n → Ended w held s

none_fewer : (n m : ℕ) → suc m ≤ n → n ≤ 0 → ⊥
none_fewer n m more none = omega (arith, more, none)

still_few : (n m k : ℕ) → suc m ≤ n → n ≤ suc k → m ≤ k
still_few n m k more few = omega (arith, more, few)

abbrev pub at_end : {S : Type 0} (w : Walk S) (held : Held) (s : S) → (w.beat held s).beat ≡ None → Ended w held s
at_end w held s none = record {
  turns = [];
  value = w.ending s;
  after = (w.beat held s).held;
  walk = record { none = none; value = refl; left = refl };
}

none_by : {S : Type 0} (w : Walk S) (f : Finite w) (held : Held) (s : S) (o : Option Beat) → f.holds s → f.left s ≤ 0
    → (w.beat held s).beat ≡ o → Ended w held s
none_by w f held s None holds few there = at_end w held s there
none_by w f held s (Some c) holds few there =
    absurd (none_fewer (f.left s) (f.left (w.later held (w.beat held s).state False)) (f.fewer held held s False c holds there)
    few)

one_by : {S : Type 0} (w : Walk S) (f : Finite w) (n : ℕ) (held : Held) (s : S) (o : Option Beat) → EndsIn w f n
    → f.holds s → f.left s ≤ suc n → (w.beat held s).beat ≡ o → Ended w held s
one_by w f n held s None rest holds few there = at_end w held s there
one_by w f n held s (Some c) rest holds few there =
    let u = (w.beat held s).state in
    let t : Turn = record { wanted = call_beat (w.beat held s).held (own (w.as_state u)) c; answer = False; held = held } in
    let more = rest (w.left held u False) (w.later held u False) (f.stays held held s False holds)
    (still_few (f.left s) (f.left (w.later held u False)) n (f.fewer held held s False c holds there) few) in
    record {
      turns = t ∷ more.turns;
      value = more.value;
      after = more.after;
      walk = record { call = c; there = there; called = refl; asked = refl; rest = more.walk };
    }

pub ends_in : {S : Type 0} (w : Walk S) (f : Finite w) (n : ℕ) → EndsIn w f n
ends_in w f zero = λ held s holds few. none_by w f held s (w.beat held s).beat holds few refl
ends_in w f (suc n) = λ held s holds few. one_by w f n held s (w.beat held s).beat (ends_in w f n) holds few refl

pub not_more : (n : ℕ) → n ≤ n
not_more n = omega arith

abbrev pub to_the_end : {S : Type 0} (w : Walk S) → Finite w → Ending w
to_the_end w f = record {
  holds = f.holds;
  stays = f.stays;
  answered = λ held s holds. let u = (w.beat held s).state in record {
    answer = False;
    heap = held;
    ended = ends_in w f (f.left (w.later held u False)) (w.left held u False) (w.later held u False)
        (f.stays held held s False holds) (not_more (f.left (w.later held u False)));
  };
}

-- how many turns there are
pub few_turns : {S : Type 0} (w : Walk S) (f : Finite w) (ts : List Turn) (held : Held) (s : S) (r : Value) (after : Held)
    → f.holds s → Walks w ts held s r after → length ts ≤ f.left s
few_turns w f [] held s r after holds d = omega arith
few_turns w f (t ∷ ts) held s r after holds c =
    let u = (w.beat held s).state in
    one_turn (length ts) (f.left (w.later t.held u t.answer)) (f.left s)
    (few_turns w f ts (w.left t.held u t.answer) (w.later t.held u t.answer) r after (f.stays held t.held s t.answer holds)
    c.rest) (f.fewer held t.held s t.answer c.call holds c.there)
  where
    one_turn : (n m k : ℕ) → n ≤ m → suc m ≤ k → suc n ≤ k
    one_turn n m k few more = omega (arith, few, more)
