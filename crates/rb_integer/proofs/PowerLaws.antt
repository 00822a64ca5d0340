-- A power is a product of as many factors as its exponent says.
use Rattle.std.proofs.Common.{◌≡◌, ℕ, zero, suc, ◌*◌, ◌^◌, ◌%◌, ℤ, pos, negsuc, neg_ℤ, ◌*ℤ◌, inl, inr, refl, sym, ap, arith}
use Rattle.std.proofs.Math.Nat.{pow-zero, pow-suc, zero-mul}
use Rattle.std.proofs.lemmas.Bool.{cases_eq}
use Rattle.std.specs.Int.{int_pow}

pub power_of_none : (x : ℤ) → int_pow x 0 ≡ pos 1
power_of_none (pos a) = ap pos (pow-zero a)
power_of_none (negsuc a) = ap pos (pow-zero (suc a))

neg_times : (m a : ℕ) → neg_ℤ (pos m) *ℤ negsuc a ≡ pos (m * suc a)
neg_times zero a = rw (zero-mul (suc a)) refl
neg_times (suc m) a = refl

even_more : (a n : ℕ) → n % 2 ≡ 0 → int_pow (negsuc a) (suc n) ≡ int_pow (negsuc a) n *ℤ negsuc a
even_more a n even = let odd : suc n % 2 ≡ 1 = omega arith in rw (odd, even, pow-suc (suc a) n) refl

odd_more : (a n : ℕ) → n % 2 ≡ 1 → int_pow (negsuc a) (suc n) ≡ int_pow (negsuc a) n *ℤ negsuc a
odd_more a n odd = let even : suc n % 2 ≡ 0 = omega arith in
    rw (even, odd, pow-suc (suc a) n) (sym (neg_times (suc a ^ n) a))

pub power_of_more : (x : ℤ) (n : ℕ) → int_pow x (suc n) ≡ int_pow x n *ℤ x
power_of_more (pos a) n = ap pos (pow-suc a n)
power_of_more (negsuc a) n = elim (cases_eq (n % 2) 0) [
  | inl even ↦ even_more a n even
  | inr other ↦
      odd_more a n (omega arith)
]
