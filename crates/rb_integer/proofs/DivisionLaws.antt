-- The quotient rounded down and its remainder make up the dividend.
use Rattle.std.proofs.Common.{◌≡◌, ◌≢◌, ℕ, zero, suc, ◌<◌, ◌+◌, ◌*◌, ◌/◌, ◌%◌, ℤ, pos, negsuc, neg_ℤ, ◌+ℤ◌, ◌*ℤ◌, ◌≤ℤ◌, ◌<ℤ◌, refl, ap, arith}
use Rattle.std.proofs.lemmas.Int.{ints}
use Rattle.std.proofs.lemmas.Nat.{div-add-mod', mod_below}
use Rattle.std.proofs.Math.Nat.{suc-mul}
use Rattle.std.specs.Int.{int_div_euclid, int_rem_euclid}
use Rattle.rb_integer.specs.Division.{floor_quotient, floor_remainder, IsFloorDivision}

-- by a natural number
whole : (x : ℤ) (d : ℕ) → (int_div_euclid x (pos (suc d)) *ℤ pos (suc d)) +ℤ int_rem_euclid x (pos (suc d)) ≡ x
whole (pos a) d = ap pos (div-add-mod' a (suc d))
whole (negsuc a) d =
    let sum : a / suc d * suc d + a % suc d ≡ a = div-add-mod' a (suc d) in
    let below : a % suc d < suc d = mod_below a (suc d) (omega arith) in
    let product : suc (a / suc d) * suc d ≡ a / suc d * suc d + suc d = suc-mul (a / suc d) (suc d) in
    omega (arith, ints)

side : (x : ℤ) (d : ℕ) → (pos 0 ≤ℤ int_rem_euclid x (pos (suc d))) × (int_rem_euclid x (pos (suc d)) <ℤ pos (suc d))
side (pos a) d = let below : a % suc d < suc d = mod_below a (suc d) (omega arith) in
    (omega (arith, ints), omega (arith, ints))
side (negsuc a) d = (omega (arith, ints), omega (arith, ints))

times_negative : (q : ℤ) (d : ℕ) → q *ℤ negsuc d ≡ neg_ℤ (q *ℤ pos (suc d))
times_negative (pos a) d = refl
times_negative (negsuc a) d = omega (arith, ints)

pub floor_division : (x y : ℤ) → y ≢ pos 0 → IsFloorDivision x y (floor_quotient x y) (floor_remainder x y)
floor_division x (pos zero) h = absurd (h refl)
floor_division x (pos (suc d)) h = record { whole = whole x d; remainder_side = side x d }
floor_division x (negsuc d) h =
    let sum : (int_div_euclid (neg_ℤ x) (pos (suc d)) *ℤ pos (suc d)) +ℤ int_rem_euclid (neg_ℤ x) (pos (suc d)) ≡ neg_ℤ
    x = whole (neg_ℤ x) d in
    let turned : int_div_euclid (neg_ℤ x) (pos (suc d)) *ℤ negsuc d ≡ neg_ℤ
    (int_div_euclid (neg_ℤ x) (pos (suc d)) *ℤ pos (suc d)) =
    times_negative (int_div_euclid (neg_ℤ x) (pos (suc d))) d in
    let at : (pos 0 ≤ℤ int_rem_euclid (neg_ℤ x) (pos (suc d)))
    × (int_rem_euclid (neg_ℤ x) (pos (suc d)) <ℤ pos (suc d)) = side (neg_ℤ x) d in
    record { whole = omega (arith, ints); remainder_side = (omega (arith, ints), omega (arith, ints)) }
