-- A result that is an Integer of 64 bits, or an overflow.
use Rattle.std.specs.Prelude.{◌^◌, ℤ, pos, negsuc, Bool, nat_lt, Result, Ok, Err, if◌then◌else◌}
use Rattle.rb_integer.specs.declared.failure.IntegerFailure.{IntegerFailure}
use Rattle.rb_integer.specs.declared.failure.IntegerFailure.TheVariants.{Overflow}

-- from -2 ^ 63 to 2 ^ 63 - 1
abbrev pub fits : ℤ → Bool
fits (pos n) = nat_lt n (2 ^ 63)
fits (negsuc n) = nat_lt n (2 ^ 63)

-- this number, where it is an Integer
unfoldable pub exact : ℤ → Result ℤ IntegerFailure
exact z = if fits z then Ok z else Err Overflow
