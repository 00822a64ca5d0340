-- A step over a space outside of literals and of lines with heads of heredocs.
use Rattle.std.proofs.Common.{◌≡◌, ℕ, ◌+◌, ◌==◌, nat_lt, List, length, slice_index, take, Bool, true, false, not, ◌&&◌, Option, Some, None, Ok, refl, sym, subst, arith}
use Rattle.std.proofs.lemmas.Bool.Decides.{nat_tests}
use Rattle.std.proofs.Math.Seq.{take-length}
use Rattle.lexer_steps.specs.declared.mode.Mode.{Mode}
use Rattle.lexer_steps.specs.declared.mode.Mode.TheVariants.{Braces, Interpolation, Text, Words, Body as Heredoc}
use Rattle.lexer_steps.specs.State.{State, spaced, top}
use Rattle.lexer_steps.specs.Trivia.{trivia_step}
use Rattle.rb_lexer.specs.declared.reach.Reach.{Reach}
use Rattle.rb_lexer.specs.declared.reach.Region.{Region}
use Rattle.rb_lexer.specs.declared.reach.Region.TheVariants.{Plain, Line, Body}
use Rattle.rb_lexer.specs.Code.{code_step, step_in}
use Rattle.rb_lexer.specs.Heads.{begins_heredoc}
use Rattle.rb_lexer.specs.Lexing.{Fits, RegionFits, advance, code_reach, step_reach, is_literal, is_plain_space}

code_space : (text : List ℕ) (at : ℕ) (s : State) → slice_index text at ≡ 32
    → code_step text at s ≡ Ok (spaced s, at + 1)
unfolding code_step trivia_step
code_space text at s is = rw is refl

step_space : (o : Option Mode) (text : List ℕ) (at : ℕ) (s : State) → is_literal o ≡ false → slice_index text at ≡ 32
    → step_in o text at s ≡ Ok (spaced s, at + 1)
step_space None text at s free is = code_space text at s is
step_space (Some Braces) text at s free is = code_space text at s is
step_space (Some Interpolation) text at s free is = code_space text at s is
step_space (Some (Text d)) text at s free is = absurd (cc free)
step_space (Some (Words d)) text at s free is = absurd (cc free)
step_space (Some (Heredoc double)) text at s free is = absurd (cc free)

no_heredoc : (text : List ℕ) (at : ℕ) (s : State) → slice_index text at ≡ 32 → begins_heredoc text at s ≡ None
unfolding begins_heredoc
no_heredoc text at s is = rw is refl

step_plain : (text : List ℕ) (s : State) (at stop : ℕ) → take stop text ≡ text → is_literal (top s) ≡ false
    → slice_index text at ≡ 32
    → step_reach text (record { at = at; stop = stop; region = Plain }) s
    ≡ Ok (spaced s, record { at = at + 1; stop = stop; region = Plain })
step_plain text s at stop all free is = rw all (rw (step_space (top s) text at s free is) refl)

code_plain : (text : List ℕ) (s : State) (at stop : ℕ) → take stop text ≡ text → is_literal (top s) ≡ false
    → slice_index text at ≡ 32
    → code_reach text (record { at = at; stop = stop; region = Plain }) s
    ≡ Ok (spaced s, record { at = at + 1; stop = stop; region = Plain })
unfolding code_reach
code_plain text s at stop all free is =
    rw all (rw (no_heredoc text at s is) (step_plain text s at stop all free is))

advance_plain : (text : List ℕ) (s : State) (at stop : ℕ) → take stop text ≡ text → nat_lt at stop ≡ true
    → is_literal (top s) ≡ false → slice_index text at ≡ 32
    → advance text s (record { at = at; stop = stop; region = Plain })
    ≡ Ok (spaced s, Some (record { at = at + 1; stop = stop; region = Plain }))
unfolding advance
advance_plain text s at stop all before free is =
    rw before (rw free (rw (code_plain text s at stop all free is) refl))

tests : (before here free : Bool) → (before && here && true && not free) ≡ true
    → (before ≡ true) × (here ≡ true) × (free ≡ false)
tests true true false holds = (refl, refl, refl)
tests true true true holds = absurd (cc holds)
tests true false free holds = absurd (cc holds)
tests false here free holds = absurd (cc holds)

never : (before here free : Bool) → (before && here && false && not free) ≡ true → ⊥
never true true free holds = absurd (cc holds)
never true false free holds = absurd (cc holds)
never false here free holds = absurd (cc holds)

by_region : (g : Region) (text : List ℕ) (s : State) (at stop : ℕ) → RegionFits (length text) stop g
    → is_plain_space text s (record { at = at; stop = stop; region = g }) ≡ true
    → advance text s (record { at = at; stop = stop; region = g })
    ≡ Ok (spaced s, Some (record { at = at + 1; stop = stop; region = g }))
by_region Plain text s at stop whole holds =
    let p = tests (nat_lt at stop) (slice_index text at == 32) (is_literal (top s)) holds in
    let is : slice_index text at ≡ 32 = grind (arith, nat_tests, p.1) in
    let all : take stop text ≡ text = subst (λ (n : ℕ). take n text ≡ text) (sym whole) (take-length text) in
    advance_plain text s at stop all p.0 p.2 is
by_region (Line next) text s at stop fits holds =
    absurd (never (nat_lt at stop) (slice_index text at == 32) (is_literal (top s)) holds)
by_region (Body back line next) text s at stop fits holds =
    absurd (never (nat_lt at stop) (slice_index text at == 32) (is_literal (top s)) holds)

pub space_advances : (text : List ℕ) (s : State) (r : Reach) → Fits (length text) r → is_plain_space text s r ≡ true
    → advance text s r ≡ Ok (spaced s, Some (record { at = r.at + 1; stop = r.stop; region = r.region }))
space_advances text s r fits holds = by_region r.region text s r.at r.stop fits.2 holds
