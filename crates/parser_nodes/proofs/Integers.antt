-- Integers of 64 bits with a sign.
use Rattle.std.proofs.Common.{◌≡◌, ℕ, zero, suc, ◌<◌, ◌≤◌, pos, negsuc, neg_ℤ, FitsSigned, w64, to_z, of_z, ap, arith}
use Rattle.std.proofs.lemmas.Int.{to_z-of_z, to_z_pos}

pub cast_is : (n : ℕ) → n < 9223372036854775808 → to_z w64 n ≡ pos n
cast_is n h = to_z_pos w64 n h

pub neg_fits : (n : ℕ) → n ≤ 9223372036854775808 → FitsSigned w64 (neg_ℤ (pos n))
neg_fits zero h = record { sfits = omega arith }
neg_fits (suc n) h = record { sfits = omega arith }

pub neg_is : (n : ℕ) → n < 9223372036854775808 → to_z w64 (of_z w64 (neg_ℤ (to_z w64 n))) ≡ neg_ℤ (pos n)
neg_is n h = rw (cast_is n h) (to_z-of_z w64 (neg_ℤ (pos n)) (neg_fits n (omega arith)))

pub least_is : (n : ℕ) → n ≤ 9223372036854775808 → 9223372036854775808 ≤ n → neg_ℤ (pos n) ≡ negsuc 9223372036854775807
least_is n a b = let e : n ≡ 9223372036854775808 = omega arith in ap (λ k. neg_ℤ (pos k)) e

pub ruleset casts = (cast_is, neg_is, least_is, neg_fits)
