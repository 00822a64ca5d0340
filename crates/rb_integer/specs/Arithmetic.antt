-- Sums, products and powers (ISO/IEC 30170:2012, 15.2.8).
use Rattle.std.specs.Prelude.{ℤ, pos, negsuc, ◌+ℤ◌, ◌-ℤ◌, ◌*ℤ◌, neg_ℤ, unsigned_abs, Result, Err}
use Rattle.std.specs.Int.{int_pow}
use Rattle.rb_integer.specs.declared.failure.IntegerFailure.{IntegerFailure}
use Rattle.rb_integer.specs.declared.failure.IntegerFailure.TheVariants.{NegativeExponent}
use Rattle.rb_integer.specs.Exact.{exact}

abbrev pub sum : ℤ → ℤ → Result ℤ IntegerFailure
sum x y = exact (x +ℤ y)

abbrev pub difference : ℤ → ℤ → Result ℤ IntegerFailure
difference x y = exact (x -ℤ y)

abbrev pub product : ℤ → ℤ → Result ℤ IntegerFailure
product x y = exact (x *ℤ y)

abbrev pub negation : ℤ → Result ℤ IntegerFailure
negation x = exact (neg_ℤ x)

abbrev pub magnitude : ℤ → Result ℤ IntegerFailure
magnitude x = exact (pos (unsigned_abs x))

abbrev pub next : ℤ → Result ℤ IntegerFailure
next x = exact (x +ℤ pos 1)

abbrev pub previous : ℤ → Result ℤ IntegerFailure
previous x = exact (x -ℤ pos 1)

-- a power with a natural exponent
abbrev pub power : ℤ → ℤ → Result ℤ IntegerFailure
power x (pos n) = exact (int_pow x n)
power x (negsuc n) = Err NegativeExponent
