-- Division that rounds down, from division that rounds toward zero.
use Rattle.std.proofs.Common.{◌≡◌, ◌≢◌, ℕ, zero, suc, ◌<◌, ◌≤◌, ◌+◌, ◌-◌, ◌*◌, ◌/◌, ◌%◌, ◌==◌, ◌⊎◌, inl, inr, ◌^◌, ℤ, pos, negsuc, neg_ℤ, FitsSigned, w64, to_z, of_z, Option, Some, None, Ok, ok_or, ◌+ℤ◌, ◌-ℤ◌, Bool, true, false, not, refl, sym, ◌∙◌, ap, arith}
use Rattle.std.proofs.lemmas.Bool.{cases_lt}
use Rattle.std.proofs.lemmas.Bool.Decides.{nat_tests}
use Rattle.std.proofs.lemmas.Int.{ints, quot_is, to_z-of_z}
use Rattle.std.proofs.lemmas.Nat.{div-add-mod', mod_below, div-mul-add, mod-mul-add}
use Rattle.std.proofs.Math.Nat.{suc-mul, zero-mod, zero-div, div-le_self}
use Rattle.std.specs.Int.{IsNonZero, CanDivide, int_rem_euclid}
use Rattle.std.specs.Int.RustNames.{int_div, int_rem}
use Rattle.std.specs.Option.{SomeIff}
use Rattle.rb_integer.proofs.Checked.{checked_as, exact_at}
use Rattle.rb_integer.specs.Division.{floor_quotient, floor_remainder}
use Rattle.rb_integer.specs.Exact.{exact}
use Rattle.rb_integer.specs.declared.failure.IntegerFailure.TheVariants.{Overflow}
use Rattle.rb_integer.specs.Truncation.{is_rounded_up}

-- one more leaves the quotient, or begins the next
pub next_quotient : (n m : ℕ) → 0 < m → ((suc n / m ≡ n / m) × (suc n % m ≡ suc (n % m)))
    ⊎ ((suc n / m ≡ suc (n / m)) × (suc n % m ≡ 0) × (suc (n % m) ≡ m))
next_quotient n m h =
    let whole : n / m * m + n % m ≡ n = div-add-mod' n m in
    let below : n % m < m = mod_below n m h in
    elim (cases_lt (suc (n % m)) m) [
      | inl lt ↦
          let e : suc n ≡ n / m * m + suc (n % m) = omega arith in
          inl (
            ap (λ k. k / m) e ∙ div-mul-add (n / m) m (suc (n % m)) lt,
            ap (λ k. k % m) e
                ∙ mod-mul-add (n / m) m (suc (n % m)) lt,
          )
      | inr le ↦
          let full : suc (n % m) ≡ m = omega arith in
          let product : suc (n / m) * m ≡ n / m * m + m = suc-mul (n / m) m in
          let e : suc n ≡ suc (n / m) * m + 0 = omega arith in
          inr (
            ap (λ k. k / m) e ∙ div-mul-add (suc (n / m)) m 0 h,
            ap (λ k. k % m) e ∙ mod-mul-add (suc (n / m)) m 0 h,
            full,
          )
    ]

one_less : (k : ℕ) → negsuc k ≡ neg_ℤ (pos k) -ℤ pos 1
one_less k = omega (arith, ints)

-- ---- operands of different signs: -(n + 1) / m

less : (n m : ℕ) → 0 < m → not (suc n % m == 0) ≡ true → negsuc (n / m) ≡ neg_ℤ (pos (suc n / m)) -ℤ pos 1
less n m h up = elim (next_quotient n m h) [
  | inl e ↦ one_less (n / m) ∙ ap (λ k. neg_ℤ (pos k) -ℤ pos 1) (sym e.0)
  | inr e ↦ absurd (grind (arith, nat_tests))
]

same : (n m : ℕ) → 0 < m → not (suc n % m == 0) ≡ false → negsuc (n / m) ≡ neg_ℤ (pos (suc n / m))
same n m h up = elim (next_quotient n m h) [
  | inl e ↦ absurd (grind (arith, nat_tests))
  | inr e ↦ ap (λ k. neg_ℤ (pos k)) (sym e.0)
]

-- the remainder of -(n + 1), and that of n + 1 by a divisor below 0
rem_more : (n m : ℕ) → 0 < m → not (suc n % m == 0) ≡ true → pos (m - 1 - n % m) ≡ neg_ℤ (pos (suc n % m)) +ℤ pos m
rem_more n m h up =
    let below : suc n % m < m = mod_below (suc n) m h in
    elim (next_quotient n m h) [ inl e ↦ omega (arith, ints) | inr e ↦ absurd (grind (arith, nat_tests)) ]

rem_same : (n m : ℕ) → 0 < m → not (suc n % m == 0) ≡ false → (suc n % m ≡ 0) × (m - 1 - n % m ≡ 0)
rem_same n m h up = elim (next_quotient n m h) [
  | inl e ↦ absurd (grind (arith, nat_tests))
  | inr e ↦
      (e.1, omega arith)
]

pub quotient_less : (x y : ℤ) → y ≢ pos 0 → is_rounded_up x y ≡ true → floor_quotient x y ≡ int_div x y -ℤ pos 1
quotient_less (pos a) (pos d) h up = cc
quotient_less (pos zero) (negsuc d) h up = absurd (grind (arith, nat_tests, zero-mod (suc d)))
quotient_less (pos (suc n)) (negsuc d) h up = less n (suc d) (omega arith) up
quotient_less (negsuc a) (pos zero) h up = absurd (h refl)
quotient_less (negsuc a) (pos (suc d)) h up = less a (suc d) (omega arith) up
quotient_less (negsuc a) (negsuc d) h up = cc

pub quotient_same : (x y : ℤ) → y ≢ pos 0 → is_rounded_up x y ≡ false → floor_quotient x y ≡ int_div x y
quotient_same (pos a) (pos d) h up = refl
quotient_same (pos zero) (negsuc d) h up = rw (zero-div (suc d)) refl
quotient_same (pos (suc n)) (negsuc d) h up = same n (suc d) (omega arith) up
quotient_same (negsuc a) (pos zero) h up = absurd (h refl)
quotient_same (negsuc a) (pos (suc d)) h up = same a (suc d) (omega arith) up
quotient_same (negsuc a) (negsuc d) h up = refl

pub remainder_more : (x y : ℤ) → y ≢ pos 0 → is_rounded_up x y ≡ true → floor_remainder x y ≡ int_rem x y +ℤ y
remainder_more (pos a) (pos d) h up = cc
remainder_more (pos zero) (negsuc d) h up = absurd (grind (arith, nat_tests, zero-mod (suc d)))
remainder_more (pos (suc n)) (negsuc d) h up =
    let e : pos (suc d - 1 - n % suc d) ≡ neg_ℤ (pos (suc n % suc d)) +ℤ pos (suc d) =
    rem_more n (suc d) (omega arith) up in omega (arith, ints)
remainder_more (negsuc a) (pos zero) h up = absurd (h refl)
remainder_more (negsuc a) (pos (suc d)) h up = rem_more a (suc d) (omega arith) up
remainder_more (negsuc a) (negsuc d) h up = cc

pub remainder_same : (x y : ℤ) → y ≢ pos 0 → is_rounded_up x y ≡ false → floor_remainder x y ≡ int_rem x y
remainder_same (pos a) (pos d) h up = refl
remainder_same (pos zero) (negsuc d) h up = rw (zero-mod (suc d)) refl
remainder_same (pos (suc n)) (negsuc d) h up = let e : (suc n % suc d ≡ 0) × (suc d - 1 - n % suc d ≡ 0) =
    rem_same n (suc d) (omega arith) up in rw (e.0, e.1) refl
remainder_same (negsuc a) (pos zero) h up = absurd (h refl)
remainder_same (negsuc a) (pos (suc d)) h up = let e : (suc a % suc d ≡ 0) × (suc d - 1 - a % suc d ≡ 0) =
    rem_same a (suc d) (omega arith) up in rw (e.0, e.1) refl
remainder_same (negsuc a) (negsuc d) h up = refl

-- ---- what the code computes

quotient_fits : (x y : ℤ) → FitsSigned w64 x → y ≢ pos 0 → is_rounded_up x y ≡ true
    → FitsSigned w64 (floor_quotient x y)
quotient_fits (pos a) (pos d) f h up = cc
quotient_fits (pos zero) (negsuc d) f h up = absurd (grind (arith, nat_tests, zero-mod (suc d)))
quotient_fits (pos (suc n)) (negsuc d) f h up = let small : suc n < 2 ^ 63 = f.sfits in let le : n / suc d ≤ n =
    div-le_self n (suc d) in record { sfits = omega arith }
quotient_fits (negsuc a) (pos d) f h up = let small : a < 2 ^ 63 = f.sfits in let le : a / d ≤ a = div-le_self a d in
    record { sfits = omega arith }
quotient_fits (negsuc a) (negsuc d) f h up = cc

neg_fits : (k : ℕ) → k ≤ 2 ^ 63 → FitsSigned w64 (neg_ℤ (pos k))
neg_fits zero h = record { sfits = omega arith }
neg_fits (suc k) h = record { sfits = omega arith }

truncation_fits : (x y : ℤ) → FitsSigned w64 x → y ≢ pos 0 → is_rounded_up x y ≡ true → FitsSigned w64 (int_div x y)
truncation_fits (pos a) (pos d) f h up = cc
truncation_fits (pos a) (negsuc d) f h up = let small : a < 2 ^ 63 = f.sfits in let le : a / suc d ≤ a =
    div-le_self a (suc d) in neg_fits (a / suc d) (omega arith)
truncation_fits (negsuc a) (pos d) f h up = let small : a < 2 ^ 63 = f.sfits in let le : suc a / d ≤ suc a =
    div-le_self (suc a) d in neg_fits (suc a / d) (omega arith)
truncation_fits (negsuc a) (negsuc d) f h up = cc

non_zero : (y : ℤ) → FitsSigned w64 y → y ≢ pos 0 → IsNonZero w64 y
non_zero (pos zero) g h = absurd (h refl)
non_zero (pos (suc d)) g h = omega arith
non_zero (negsuc d) g h = let small : d < 2 ^ 63 = g.sfits in omega arith

may_divide : (x y v : ℤ) (o : Option ℤ) → IsNonZero w64 y → SomeIff o (CanDivide w64 x y) v
    → SomeIff o (FitsSigned w64 (int_div x y)) v
may_divide x y v None n s = λ fit. s (n, fit)
may_divide x y v (Some q) n s = (s.0.1, s.1)

pub rounded_down : (x y : ℤ) → FitsSigned w64 x → FitsSigned w64 y → y ≢ pos 0 → is_rounded_up x y ≡ true
    → Ok (to_z w64 (of_z w64 (to_z w64 (of_z w64 (int_div (to_z w64 (of_z w64 x)) (to_z w64 (of_z w64 y)))) -ℤ pos 1)))
    ≡ exact (floor_quotient x y)
rounded_down x y f g h up =
    let t : FitsSigned w64 (int_div x y) = truncation_fits x y f h up in
    let q : FitsSigned w64 (floor_quotient x y) = quotient_fits x y f h up in
    rw (quot_is w64 x y f g t, ← quotient_less x y h up, to_z-of_z w64 (floor_quotient x y) q)
    (sym (exact_at (floor_quotient x y) q))

pub divided : (x y : ℤ) (o : Option ℤ) → FitsSigned w64 y → y ≢ pos 0 → is_rounded_up x y ≡ false
    → SomeIff o (CanDivide w64 x y) (int_div x y) → ok_or o Overflow ≡ exact (floor_quotient x y)
divided x y o g h up s = rw (quotient_same x y h up)
    (checked_as (int_div x y) o (may_divide x y (int_div x y) o (non_zero y g h) s))

euclid_rem : (x : ℤ) (d : ℕ) → (k : ℕ) × (int_rem_euclid x (pos (suc d)) ≡ pos k) × (k ≤ d)
euclid_rem (pos a) d = let h : a % suc d < suc d = mod_below a (suc d) (omega arith) in (a % suc d, refl, omega arith)
euclid_rem (negsuc a) d = (suc d - 1 - a % suc d, refl, omega arith)

remainder_fits : (x y : ℤ) → FitsSigned w64 y → y ≢ pos 0 → FitsSigned w64 (floor_remainder x y)
remainder_fits x (pos zero) g h = absurd (h refl)
remainder_fits x (pos (suc d)) g h =
    let e : (k : ℕ) × (int_rem_euclid x (pos (suc d)) ≡ pos k) × (k ≤ d) = euclid_rem x d in
    let small : suc d < 2 ^ 63 = g.sfits in
    rw e.1 (record { sfits = omega arith })
remainder_fits x (negsuc d) g h =
    let e : (k : ℕ) × (int_rem_euclid (neg_ℤ x) (pos (suc d)) ≡ pos k) × (k ≤ d) = euclid_rem (neg_ℤ x) d in
    let small : d < 2 ^ 63 = g.sfits in
    rw e.1 (neg_fits e.0 (omega arith))

pub remainder_down : (x y r : ℤ) → FitsSigned w64 y → FitsSigned w64 r → y ≢ pos 0 → is_rounded_up x y ≡ true
    → r ≡ int_rem x y → to_z w64 (of_z w64 (to_z w64 (of_z w64 r) +ℤ to_z w64 (of_z w64 y))) ≡ floor_remainder x y
remainder_down x y r g f h up is =
    let e : r +ℤ y ≡ floor_remainder x y = ap (λ k. k +ℤ y) is ∙ sym (remainder_more x y h up) in
    rw (to_z-of_z w64 r f, to_z-of_z w64 y g, e) (to_z-of_z w64 (floor_remainder x y) (remainder_fits x y g h))

-- what a call with two Integers tells
pub rounding : (x y : ℤ) (r b : Bool) → FitsSigned w64 x → FitsSigned w64 y
    → r ≡ is_rounded_up (to_z w64 (of_z w64 x)) (to_z w64 (of_z w64 y)) → r ≡ b → is_rounded_up x y ≡ b
rounding x y r b f g e t = let ex : to_z w64 (of_z w64 x) ≡ x = to_z-of_z w64 x f in
    let ey : to_z w64 (of_z w64 y) ≡ y = to_z-of_z w64 y g in let h : r ≡ is_rounded_up x y = rw (ex, ey) at e in sym h
    ∙ t
