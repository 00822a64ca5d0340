-- Steps of reading, one after the other.
use Rattle.std.proofs.Common.{◌≡◌, ℕ, zero, suc, ◌<◌, List, arith, refl, sym, ◌∙◌, Option, Some, None, Result, Ok, Err, length, subst, IfSome}
use Rattle.lexer_steps.specs.declared.error.LexError.{LexError}
use Rattle.lexer_steps.specs.declared.error.LexError.TheVariants.{NoMemory, Syntax}
use Rattle.rb_lexer.specs.declared.reach.Reach.{Reach}
use Rattle.lexer_steps.specs.LexError.{Fails}
use Rattle.rb_base.specs.Result.{◌>>=◌}
use Rattle.rb_lexer.specs.Lexing.{advance, run, finished}
use Rattle.lexer_steps.specs.State.{State}

-- enough steps are left: more than there is to read, and they give what all give
pub record Enough (text : List ℕ) (unread : ℕ) (s : State) (r : Reach) (all : Result State ℕ) : Type 0 where
  pub steps : ℕ
  pub more : unread < steps
  pub same : run steps text s r ≡ all

run_step : (n : ℕ) (text : List ℕ) (s after : State) (r next : Reach) → advance text s r ≡ Ok (after, Some next)
    → run (suc n) text s r ≡ run n text after next
unfolding run
run_step n text s after r next is = rw is refl

run_ends : (n : ℕ) (text : List ℕ) (s after : State) (r : Reach) → advance text s r ≡ Ok (after, None)
    → run (suc n) text s r ≡ Ok after
unfolding run
run_ends n text s after r is = rw is refl

run_stops : (n : ℕ) (text : List ℕ) (s : State) (r : Reach) (place : ℕ) → advance text s r ≡ Err place
    → run (suc n) text s r ≡ Err place
unfolding run
run_stops n text s r place is = rw is refl

step_from : (n : ℕ) (text : List ℕ) (s after : State) (r next : Reach) (unread left : ℕ) (all : Result State ℕ)
    → unread < n → run n text s r ≡ all
    → advance text s r ≡ Ok (after, Some next) → left < unread → Enough text left after next all
step_from zero text s after r next unread left all more same is less = absurd (omega arith)
step_from (suc n) text s after r next unread left all more same is less =
    record { steps = n; more = omega arith; same = sym (run_step n text s after r next is) ∙ same }

pub kept : (P : Reach → Type 0) (o : Option Reach) (next : Reach) → o ≡ Some next → IfSome o P → P next
kept P o next some holds = subst (λ (x : Option Reach). IfSome x P) some holds

-- a step leaves enough steps
pub goes_on : (text : List ℕ) (s after : State) (r next : Reach) (o : Option Reach) (unread left : ℕ)
    (all : Result State ℕ) → Enough text unread s r all
    → advance text s r ≡ Ok (after, o) → o ≡ Some next → left < unread → Enough text left after next all
goes_on text s after r next o unread left all e is some less =
    step_from e.steps text s after r next unread left all e.more e.same
    (subst (λ (x : Option Reach). advance text s r ≡ Ok (after, x)) some is) less

ends_from : (n : ℕ) (text : List ℕ) (s after : State) (r : Reach) (unread : ℕ) (all : Result State ℕ) → unread < n
    → run n text s r ≡ all
    → advance text s r ≡ Ok (after, None) → all ≡ Ok after
ends_from zero text s after r unread all more same is = absurd (omega arith)
ends_from (suc n) text s after r unread all more same is = sym same ∙ run_ends n text s after r is

-- the last step ends all
pub ends : (text : List ℕ) (s after : State) (r : Reach) (o : Option Reach) (unread : ℕ) (all : Result State ℕ)
    → Enough text unread s r all
    → advance text s r ≡ Ok (after, o) → o ≡ None → all ≡ Ok after
ends text s after r o unread all e is none = ends_from e.steps text s after r unread all e.more e.same
    (subst (λ (x : Option Reach). advance text s r ≡ Ok (after, x)) none is)

stops_from : (n : ℕ) (text : List ℕ) (s : State) (r : Reach) (place unread : ℕ) (all : Result State ℕ) → unread < n
    → run n text s r ≡ all
    → advance text s r ≡ Err place → all ≡ Err place
stops_from zero text s r place unread all more same is = absurd (omega arith)
stops_from (suc n) text s r place unread all more same is = sym same ∙ run_stops n text s r place is

-- a step that fails fails all
pub fails : (text : List ℕ) (s : State) (r : Reach) (unread : ℕ) (e : LexError) (all : Result State ℕ)
    → Enough text unread s r all
    → Fails e (advance text s r) → Fails e (all >>= finished (length text))
fails text s r unread NoMemory all enough is = tt
fails text s r unread (Syntax place) all enough is = rw (stops_from enough.steps text s r place unread all enough.more
    enough.same is) refl
