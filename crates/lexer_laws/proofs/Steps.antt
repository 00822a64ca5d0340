-- What a step gives: a state and a place.
use Rattle.std.proofs.Common.{◌≡◌, ℕ, sym, ap, ◌∙◌, Bool, true, false, Result, Ok}
use Rattle.lexer_steps.specs.State.{State}

abbrev pub passed : State → ℕ → Result (State × ℕ) ℕ
passed s at = Ok (s, at)

pub both_are : (s t : State) (m n : ℕ) → passed s m ≡ passed t n → (s ≡ t) × (m ≡ n)
both_are s t m n h =
    let pair : (s, m) ≡ (t, n) = cc in
    (ap (λ (p : State × ℕ). p.0) pair, ap (λ (p : State × ℕ). p.1) pair)

pub not_both : (b : Bool) → b ≡ true → b ≡ false → ⊥
not_both b t f = let bad : true ≡ false = sym t ∙ f in absurd (cc)
