-- White space is passed over as far as it goes, and no token begins with it.
use Rattle.std.proofs.Common.{◌≡◌, ℕ, suc, zero, ◌+◌, ◌-◌, ◌<◌, ◌≤◌, List, get_or, arith, refl, sym, ap, ◌∙◌, true, eqb, ◌||◌, inl, inr}
use Rattle.std.proofs.lemmas.Bool.{or_cases, eqb-true, cases_lt}
use Rattle.lexer_tables.specs.ByteClass.{is_blank}
use Rattle.lexer_steps.specs.State.{State, spaced}
use Rattle.lexer_steps.specs.Trivia.{trivia_step}
use Rattle.rb_lexer.specs.Code.{code_step}
use Rattle.lexer_laws.specs.Longest.{IsLongest, IsRun}
use Rattle.lexer_laws.specs.White.{steps}
use Rattle.lexer_laws.proofs.Steps.{passed, both_are}

pub blank_step : (text : List ℕ) (at : ℕ) (s : State) → is_blank (get_or text at 0) ≡ true
    → code_step text at s ≡ passed (spaced s) (at + 1)
unfolding code_step trivia_step
blank_step text at s blank =
    elim (or_cases (eqb (get_or text at 0) 32 || eqb (get_or text at 0) 9) (eqb (get_or text at 0) 13) blank) [
      | inl first ↦ elim (or_cases (eqb (get_or text at 0) 32) (eqb (get_or text at 0) 9) first) [
        | inl space ↦ rw (eqb-true (get_or text at 0) 32 space) refl
        | inr tab ↦ rw (eqb-true (get_or text at 0) 9 tab) refl
      ]
      | inr return ↦ rw (eqb-true (get_or text at 0) 13 return) refl
    ]

-- some steps over white space
pub blanks_pass : (n : ℕ) (text : List ℕ) (at : ℕ) (s : State)
    → ((i : ℕ) → at ≤ i → i < at + suc n → is_blank (get_or text i 0) ≡ true)
    → steps (suc n) text at s ≡ passed (spaced s) (at + suc n)
unfolding steps
blanks_pass zero text at s all =
    let e : at + 1 ≡ at + suc zero = omega arith in
    rw (blank_step text at s (all at (omega arith) (omega arith))) (ap (passed (spaced s)) e)
blanks_pass (suc n) text at s all =
    let e : at + 1 + suc n ≡ at + suc (suc n) = omega arith in
    rw (blank_step text at s (all at (omega arith) (omega arith)))
    (blanks_pass n text (at + 1) (spaced s) (λ i low high. all i (omega (arith, low)) (omega (arith, high)))
    ∙ ap (passed (spaced s)) e)

pub white_complete : (text : List ℕ) (at end : ℕ) (s : State) → IsLongest (IsRun is_blank text at) end → at < end
    → steps (end - at) text at s ≡ passed (spaced s) end
white_complete text at end s l some =
    let n = end - at - 1 in
    let k : end - at ≡ suc (end - at - 1) = omega (arith, some) in
    let e : at + suc (end - at - 1) ≡ end = omega (arith, some) in
    rw k (blanks_pass (end - at - 1) text at s (λ i low high. l.there.all i low (omega (arith, high, e)))
    ∙ ap (passed (spaced s)) e)

pub white_sound : (text : List ℕ) (at end : ℕ) (s t : State) → code_step text at s ≡ passed t end
    → (t.tokens ≡ s.tokens → ⊥) → (other : ℕ) → IsRun is_blank text at other → other ≡ at
white_sound text at end s t h token other run =
    elim (cases_lt at other) [
      | inl far ↦
          let step = blank_step text at s (run.all at (omega arith) far) in
          absurd (token (ap (λ (u : State). u.tokens) ((both_are t (spaced s) end (at + 1) (sym h ∙ step)).0)))
      | inr near ↦ omega (arith, run.forward, near)
    ]
