-- Operations on bits, and shifts (ISO/IEC 30170:2012, 15.2.8).
use Rattle.std.specs.Prelude.{ℕ, suc, ◌-◌, ◌^◌, ℤ, pos, negsuc, ◌*ℤ◌, neg_ℤ, Result, Ok}
use Rattle.std.specs.Int.{bit_at}
use Rattle.rb_integer.specs.declared.failure.IntegerFailure.{IntegerFailure}
use Rattle.rb_integer.specs.Exact.{exact}
use Rattle.rb_integer.specs.Division.{floor_quotient}

-- bit i of a number with infinitely many bits in two's complement: those of -(n + 1) are those of n, each turned over
abbrev pub bit_of : ℤ → ℕ → ℕ
bit_of (pos n) i = bit_at n i
bit_of (negsuc n) i = 1 - bit_at n i

-- -x - 1
abbrev pub complement : ℤ → ℤ
complement (pos n) = negsuc n
complement (negsuc n) = pos n

-- To the left by a count multiplies by a power of 2; a count below 0 divides by one, rounding down.
abbrev pub left : ℤ → ℤ → Result ℤ IntegerFailure
left x (pos k) = exact (x *ℤ pos (2 ^ k))
left x (negsuc k) = Ok (floor_quotient x (pos (2 ^ suc k)))

-- to the right is to the left by the opposite count
abbrev pub right : ℤ → ℤ → Result ℤ IntegerFailure
right x k = left x (neg_ℤ k)
