-- Division that rounds down (ISO/IEC 30170:2012, 15.2.8).
use Rattle.std.specs.Prelude.{◌≡◌, zero, suc, ℤ, pos, negsuc, ◌+ℤ◌, ◌*ℤ◌, neg_ℤ, ◌≤ℤ◌, ◌<ℤ◌, Result, Ok, Err}
use Rattle.std.specs.Int.{int_div_euclid, int_rem_euclid}
use Rattle.rb_integer.specs.declared.failure.IntegerFailure.{IntegerFailure}
use Rattle.rb_integer.specs.declared.failure.IntegerFailure.TheVariants.{DividedByZero}
use Rattle.rb_integer.specs.Exact.{exact}

-- The quotient rounded down: by a divisor above 0 it is the one whose remainder isn't negative, and to change the
-- signs of both numbers changes no quotient.
abbrev pub floor_quotient : ℤ → ℤ → ℤ
floor_quotient x (pos d) = int_div_euclid x (pos d)
floor_quotient x (negsuc d) = int_div_euclid (neg_ℤ x) (pos (suc d))

-- its remainder, which has the divisor's sign
abbrev pub floor_remainder : ℤ → ℤ → ℤ
floor_remainder x (pos d) = int_rem_euclid x (pos d)
floor_remainder x (negsuc d) = neg_ℤ (int_rem_euclid (neg_ℤ x) (pos (suc d)))

-- 0 divides nothing
abbrev pub by_divisor : {A : Type 0} → ℤ → Result A IntegerFailure → Result A IntegerFailure
by_divisor (pos zero) r = Err DividedByZero
by_divisor (pos (suc d)) r = r
by_divisor (negsuc d) r = r

abbrev pub quotient : ℤ → ℤ → Result ℤ IntegerFailure
quotient x y = by_divisor y (exact (floor_quotient x y))

abbrev pub remainder : ℤ → ℤ → Result ℤ IntegerFailure
remainder x y = by_divisor y (Ok (floor_remainder x y))

abbrev pub with_remainder : ℤ → Result ℤ IntegerFailure → Result (ℤ × ℤ) IntegerFailure
with_remainder r (Ok q) = Ok (q, r)
with_remainder r (Err e) = Err e

abbrev pub quotient_and_remainder : ℤ → ℤ → Result (ℤ × ℤ) IntegerFailure
quotient_and_remainder x y = by_divisor y (with_remainder (floor_remainder x y) (exact (floor_quotient x y)))

-- from 0 to the divisor, which is left out
abbrev pub StandsBelow : ℤ → ℤ → Type 0
StandsBelow (pos d) r = (pos 0 ≤ℤ r) × (r <ℤ pos d)
StandsBelow (negsuc d) r = (negsuc d <ℤ r) × (r ≤ℤ pos 0)

-- q is x / y rounded down, and r what it leaves
pub record IsFloorDivision (x y q r : ℤ) : Type 0 where
  pub whole : (q *ℤ y) +ℤ r ≡ x
  pub remainder_side : StandsBelow y r
