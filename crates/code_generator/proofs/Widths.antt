-- Every form takes a register.
use Rattle.std.proofs.Common.{◌≡◌, ℕ, ◌≤◌, arith, max}
use Rattle.std.proofs.Math.Nat.{le-max_right, max-eq_left, max-eq_right}
use Rattle.path_core.specs.Form.{Forms, none, more}
use Rattle.code_generator.specs.Gen.{width, all_width}

pub one_at_least : (es : Forms) → 1 ≤ all_width es
one_at_least none = omega arith
one_at_least (more e es) = let r = one_at_least es in let m = le-max_right (width e) (all_width es) in
    omega (arith, r, m)

pub max_right : (a b : ℕ) → a ≤ b → max a b ≡ b
max_right a b h = max-eq_right h

pub max_left : (a b : ℕ) → b ≤ a → max a b ≡ a
max_left a b h = max-eq_left h
