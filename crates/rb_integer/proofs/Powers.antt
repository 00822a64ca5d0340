-- Powers with a large exponent.
use Rattle.std.proofs.Common.{◌≡◌, ◌≢◌, ℕ, zero, suc, ◌≤◌, ◌^◌, ◌%◌, ◌==◌, ℤ, pos, negsuc, neg_ℤ, Bool, Ok, Err, cond, true, false, refl, ◌∙◌, arith}
use Rattle.std.proofs.lemmas.Bool.Decides.{nat_tests}
use Rattle.std.proofs.Math.Nat.{pow-suc, pow-zero, pow-le-pow_left, pow-le-pow_right, le_trans, mul-zero, mul-one}
use Rattle.std.specs.Int.{int_pow}
use Rattle.rb_integer.specs.declared.failure.IntegerFailure.TheVariants.{Overflow}
use Rattle.rb_integer.specs.Exact.{exact}

zero_pow-suc : (n : ℕ) → 0 ^ suc n ≡ 0
zero_pow-suc n = pow-suc 0 n ∙ mul-zero (0 ^ n)

one_pow : (n : ℕ) → 1 ^ n ≡ 1
one_pow zero = pow-zero 1
one_pow (suc n) = pow-suc 1 n ∙ mul-one (1 ^ n) ∙ one_pow n

pub power_of_zero : (x : ℤ) (e : ℕ) → x ≡ pos 0 → 64 ≤ e → exact (int_pow x e) ≡ Ok (pos 0)
unfolding exact
power_of_zero x zero is h = absurd (omega arith)
power_of_zero x (suc n) is h = rw (is, zero_pow-suc n) refl

pub power_of_one : (x : ℤ) (e : ℕ) → x ≡ pos 1 → exact (int_pow x e) ≡ Ok (pos 1)
unfolding exact
power_of_one x e is = rw (is, one_pow e) refl

pub even_power : (x : ℤ) (e : ℕ) → x ≡ negsuc 0 → e % 2 ≡ 0 → exact (int_pow x e) ≡ Ok (pos 1)
unfolding exact
even_power x e is h = rw (is, one_pow e, h) refl

pub odd_power : (x : ℤ) (e : ℕ) → x ≡ negsuc 0 → e % 2 ≢ 0 → exact (int_pow x e) ≡ Ok (negsuc 0)
unfolding exact
odd_power x e is h = let one : e % 2 ≡ 1 = omega arith in rw (is, one_pow e, one) refl

large : (a e : ℕ) → 2 ≤ a → 64 ≤ e → 2 ^ 64 ≤ a ^ e
large a e h k = le_trans (pow-le-pow_left h 64) (pow-le-pow_right {n = a} (omega arith) k)

overflow_of : (n : ℕ) → 2 ^ 64 ≤ n → exact (pos n) ≡ Err Overflow
unfolding exact
overflow_of n h = grind (arith, nat_tests)

overflow_below : (n : ℕ) → 2 ^ 64 ≤ n → exact (neg_ℤ (pos n)) ≡ Err Overflow
unfolding exact
overflow_below zero h = absurd (omega arith)
overflow_below (suc n) h = grind (arith, nat_tests)

-- a number of at least 2 to the power 64 or more is no Integer
pub overflow_power : (x : ℤ) (e : ℕ) → 64 ≤ e → x ≢ pos 0 → x ≢ pos 1 → x ≢ negsuc 0
    → exact (int_pow x e) ≡ Err Overflow
overflow_power (pos zero) e h no0 no1 no2 = absurd (no0 refl)
overflow_power (pos (suc zero)) e h no0 no1 no2 = absurd (no1 refl)
overflow_power (pos (suc (suc a))) e h no0 no1 no2 =
    overflow_of (suc (suc a) ^ e) (large (suc (suc a)) e (omega arith) h)
overflow_power (negsuc zero) e h no0 no1 no2 = absurd (no2 refl)
overflow_power (negsuc (suc a)) e h no0 no1 no2 =
    let big : 2 ^ 64 ≤ suc (suc a) ^ e = large (suc (suc a)) e (omega arith) h in
    let P : Bool → Type 0 = λ even. exact (cond even (pos (suc (suc a) ^ e)) (neg_ℤ (pos (suc (suc a) ^ e)))) ≡ Err
    Overflow in
    elim (e % 2 == 0) as P [ true ↦ overflow_of (suc (suc a) ^ e) big | false ↦ overflow_below (suc (suc a) ^ e) big ]

pub ruleset large_powers = (power_of_zero, power_of_one, even_power, odd_power, overflow_power)
