-- Shifts, by powers of 2.
use Rattle.std.proofs.Common.{◌≡◌, ◌≢◌, ℕ, zero, suc, ◌<◌, ◌≤◌, ◌*◌, ◌/◌, ◌%◌, ◌^◌, inl, inr, min, ℤ, pos, negsuc, neg_ℤ, ◌*ℤ◌, FitsSigned, w64, to_z, of_z, Option, ok_or, Ok, Err, refl, sym, ap, arith}
use Rattle.std.proofs.lemmas.Bool.{cases_lt}
use Rattle.std.proofs.lemmas.Bool.Decides.{nat_tests}
use Rattle.std.proofs.lemmas.Int.{to_z-of_z, to_z_pos}
use Rattle.std.proofs.lemmas.Nat.{one_shl, pow_below}
use Rattle.std.proofs.Math.Nat.{div-eq_of_lt, div-one, pow-le-pow_right, mul-one, zero-mul, mul-le-mul_right}
use Rattle.std.specs.Int.{int_div_euclid}
use Rattle.std.specs.Option.{SomeIff}
use lib.Signed.{shr_z}
use Rattle.rb_integer.specs.declared.failure.IntegerFailure.TheVariants.{Overflow}
use Rattle.rb_integer.specs.Exact.{exact}
use Rattle.rb_integer.specs.Division.{floor_quotient}
use Rattle.rb_integer.specs.Bits.{right}
use Rattle.rb_integer.proofs.Checked.{checked_as, exact_at}

-- ---- to the left

pub zero_left : (x : ℤ) (k : ℕ) → x ≡ pos 0 → exact (x *ℤ pos (2 ^ k)) ≡ Ok (pos 0)
unfolding exact
zero_left x k is = rw (is, zero-mul (2 ^ k)) refl

-- `1 << k`
one_shifted : (k : ℕ) → k < 63 → to_z w64 (1 * 2 ^ k % 2 ^ 64) ≡ pos (2 ^ k)
one_shifted k h = rw (one_shl k 64 (omega arith)) (to_z_pos w64 (2 ^ k) (pow_below k 63 h))

pub small_left : (x : ℤ) (k : ℕ) (o : Option ℤ) → FitsSigned w64 x → k < 63
    → SomeIff o (FitsSigned w64 (to_z w64 (of_z w64 x) *ℤ to_z w64 (1 * 2 ^ k % 2 ^ 64)))
    (to_z w64 (of_z w64 x) *ℤ to_z w64 (1 * 2 ^ k % 2 ^ 64)) → ok_or o Overflow ≡ exact (x *ℤ pos (2 ^ k))
small_left x k o f h s =
    let ex : to_z w64 (of_z w64 x) ≡ x = to_z-of_z w64 x f in
    let one : to_z w64 (1 * 2 ^ k % 2 ^ 64) ≡ pos (2 ^ k) = one_shifted k h in
    let t : SomeIff o (FitsSigned w64 (x *ℤ pos (2 ^ k))) (x *ℤ pos (2 ^ k)) = rw (ex, one) at s in
    checked_as (x *ℤ pos (2 ^ k)) o t

large_power : (a k : ℕ) → 0 < a → 63 ≤ k → 2 ^ 63 ≤ a * 2 ^ k
large_power a k h le =
    let big : 2 ^ 63 ≤ 2 ^ k = pow-le-pow_right {n = 2} (omega arith) le in
    let more : 1 * 2 ^ k ≤ a * 2 ^ k = mul-le-mul_right (2 ^ k) h in
    omega arith

too_large : (n : ℕ) → 2 ^ 63 ≤ n → exact (pos n) ≡ Err Overflow
unfolding exact
too_large n h = grind (arith, nat_tests)

too_small : (n : ℕ) → 2 ^ 63 < n → exact (neg_ℤ (pos n)) ≡ Err Overflow
unfolding exact
too_small zero h = absurd (omega arith)
too_small (suc n) h = grind (arith, nat_tests)

pub other_left : (x : ℤ) (k : ℕ) → x ≢ pos 0 → 63 ≤ k → x ≢ negsuc 0 → exact (x *ℤ pos (2 ^ k)) ≡ Err Overflow
other_left (pos zero) k h le other = absurd (h refl)
other_left (pos (suc a)) k h le other = too_large (suc a * 2 ^ k) (large_power (suc a) k (omega arith) le)
other_left (negsuc zero) k h le other = absurd (other refl)
other_left (negsuc (suc a)) k h le other =
    let big : 2 ^ 63 ≤ 2 ^ k = pow-le-pow_right {n = 2} (omega arith) le in
    let more : 2 * 2 ^ k ≤ suc (suc a) * 2 ^ k = mul-le-mul_right (2 ^ k) (omega arith) in
    too_small (suc (suc a) * 2 ^ k) (omega arith)

pub least_left : (x : ℤ) (k : ℕ) → x ≡ negsuc 0 → k ≡ 63 → exact (x *ℤ pos (2 ^ k)) ≡ Ok (negsuc 9223372036854775807)
unfolding exact
least_left x k is e = rw (is, e) refl

pub one_left : (x : ℤ) (k : ℕ) → x ≡ negsuc 0 → 63 ≤ k → k ≢ 63 → exact (x *ℤ pos (2 ^ k)) ≡ Err Overflow
one_left x k is le other =
    let big : 2 ^ 64 ≤ 2 ^ k = pow-le-pow_right {n = 2} (omega arith) {i = 64} {j = k} (omega arith) in
    rw is (too_small (1 * 2 ^ k) (omega arith))

pub ruleset large_shifts = (other_left, least_left, one_left)

-- ---- to the right

divided_by_least : (a k : ℕ) → a < 2 ^ 63 → a / 2 ^ min k 63 ≡ a / 2 ^ k
divided_by_least a k h = elim (cases_lt 63 k) [
  | inl lt ↦
      let e : min k 63 ≡ 63 = omega arith in
      let big : 2 ^ 63 ≤ 2 ^ k = pow-le-pow_right {n = 2} (omega arith) {i = 63} {j = k} (omega arith) in
      let zero_at : a / 2 ^ k ≡ 0 = div-eq_of_lt (omega arith) in
      rw (e, zero_at) (div-eq_of_lt h)
  | inr le ↦ let e : min k 63 ≡ k = omega arith in rw e refl
]

pub shifted_right : (x : ℤ) (k : ℕ) → FitsSigned w64 x → shr_z x (2 ^ min k 63) ≡ int_div_euclid x (pos (2 ^ k))
shifted_right (pos a) k f = ap pos (divided_by_least a k f.sfits)
shifted_right (negsuc a) k f = ap negsuc (divided_by_least a k f.sfits)

-- a shift to the right by a natural count
pub right_by : (x : ℤ) (k : ℕ) → FitsSigned w64 x → Ok (floor_quotient x (pos (2 ^ k))) ≡ right x (pos k)
right_by x (suc k) f = refl
right_by (pos a) zero f = rw (div-one a, mul-one a) (sym (exact_at (pos a) f))
right_by (negsuc a) zero f = rw (div-one a, mul-one (suc a)) (sym (exact_at (negsuc a) f))
