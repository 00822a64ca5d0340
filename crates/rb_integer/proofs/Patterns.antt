-- The bits of numbers in two's complement.
use Rattle.std.proofs.Common.{◌≡◌, ℕ, suc, ◌<◌, ◌≤◌, ◌+◌, ◌-◌, ◌%◌, ◌^◌, inl, inr, ℤ, pos, negsuc, FitsSigned, w64, to_z, of_z, refl, sym, ◌∙◌, ap, min, max, bit_and, bit_or, bit_xor, arith}
use Rattle.std.proofs.lemmas.Bool.{cases_lt}
use Rattle.std.proofs.lemmas.Nat.Bits.{bit_at_not, bit_at_above, bit_at_and, bit_at_or, bit_at_xor}
use Rattle.std.proofs.lemmas.Nat.{and_le_l, or_lt, xor_lt}
use Rattle.std.proofs.lemmas.Int.{of_z-to_z}
use Rattle.std.specs.Int.{bit_at}
use Rattle.rb_integer.specs.Bits.{bit_of}
use mir.Facts.{sfits_to_z, Fits-of_z}

-- the low 64 bits of a number are those of its unsigned form
pub low_bits : (z : ℤ) (i : ℕ) → FitsSigned w64 z → i < 64 → bit_at (of_z w64 z) i ≡ bit_of z i
low_bits (pos n) i f h = refl
low_bits (negsuc n) i f h =
    let small : n < 2 ^ 63 = f.sfits in
    let e : 2 ^ 64 - suc n ≡ 2 ^ 64 - 1 - n = omega arith in
    ap (λ m. bit_at m i) e ∙ bit_at_not w64 n i (omega arith) h

-- from bit 63 on each bit is the sign
pub high_bits : (z : ℤ) (i : ℕ) → FitsSigned w64 z → 63 ≤ i → bit_of z i ≡ bit_of z 63
high_bits (pos n) i f h = bit_at_above n 63 i f.sfits h ∙ sym (bit_at_above n 63 63 f.sfits (omega arith))
high_bits (negsuc n) i f h = ap (λ b. 1 - b) (bit_at_above n 63 i f.sfits h
    ∙ sym (bit_at_above n 63 63 f.sfits (omega arith)))

-- an operation on each of the 64 bits is one on each of the infinitely many
pub bit_by_bit : (f : ℕ → ℕ → ℕ) (x y : ℤ) (m : ℕ) → FitsSigned w64 x → FitsSigned w64 y → m < 2 ^ 64
    → ((i : ℕ) → bit_at m i ≡ f (bit_at (of_z w64 x) i) (bit_at (of_z w64 y) i)) → (i : ℕ)
    → bit_of (to_z w64 m) i ≡ f (bit_of x i) (bit_of y i)
bit_by_bit f x y m fx fy small each i =
    let fm : FitsSigned w64 (to_z w64 m) = sfits_to_z {w = w64} (record { fits = small }) in
    let low : (j : ℕ) → j < 64 → bit_of (to_z w64 m) j ≡ f (bit_of x j) (bit_of y j) =
    λ j h. sym (low_bits (to_z w64 m) j fm h) ∙ ap (λ k. bit_at k j) (of_z-to_z w64 m small) ∙ each j
    ∙ ap (λ b. f b (bit_at (of_z w64 y) j)) (low_bits x j fx h) ∙ ap (λ b. f (bit_of x j) b) (low_bits y j fy h) in
    elim (cases_lt i 64) [
      | inl lt ↦ low i lt
      | inr le ↦ high_bits (to_z w64 m) i fm (omega arith) ∙ low 63 (omega arith)
          ∙ ap (λ b. f b (bit_of y 63)) (sym (high_bits x i fx (omega arith)))
          ∙ ap (λ b. f (bit_of x i) b) (sym (high_bits y i fy (omega arith)))
    ]

below : (z : ℤ) → FitsSigned w64 z → of_z w64 z < 2 ^ 64
below z f = (Fits-of_z {w = w64} {z = z} f).fits

pub of_both : (x y : ℤ) → FitsSigned w64 x → FitsSigned w64 y → (i : ℕ)
    → bit_of (to_z w64 (bit_and (of_z w64 x) (of_z w64 y))) i ≡ min (bit_of x i) (bit_of y i)
of_both x y f g =
    let first : of_z w64 x < 2 ^ 64 = below x f in
    let le : bit_and (of_z w64 x) (of_z w64 y) ≤ of_z w64 x = and_le_l (of_z w64 x) (of_z w64 y) in
    bit_by_bit min x y (bit_and (of_z w64 x) (of_z w64 y)) f g (omega arith) (bit_at_and (of_z w64 x) (of_z w64 y))

pub of_either : (x y : ℤ) → FitsSigned w64 x → FitsSigned w64 y → (i : ℕ)
    → bit_of (to_z w64 (bit_or (of_z w64 x) (of_z w64 y))) i ≡ max (bit_of x i) (bit_of y i)
of_either x y f g =
    bit_by_bit max x y (bit_or (of_z w64 x) (of_z w64 y)) f g
    (or_lt 64 (of_z w64 x) (of_z w64 y) (below x f) (below y g)) (bit_at_or (of_z w64 x) (of_z w64 y))

pub of_one : (x y : ℤ) → FitsSigned w64 x → FitsSigned w64 y → (i : ℕ)
    → bit_of (to_z w64 (bit_xor (of_z w64 x) (of_z w64 y))) i ≡ (bit_of x i + bit_of y i) % 2
of_one x y f g =
    bit_by_bit (λ a b. (a + b) % 2) x y (bit_xor (of_z w64 x) (of_z w64 y)) f g
    (xor_lt 64 (of_z w64 x) (of_z w64 y) (below x f) (below y g)) (bit_at_xor (of_z w64 x) (of_z w64 y))
