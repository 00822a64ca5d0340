-- The greatest length of a String that a method makes.
use Rattle.std.specs.Prelude.{ℕ, List, length, Bool, nat_le, Result, Ok, Err, if◌then◌else◌}
use Rattle.rb_string.specs.declared.failure.StringFailure.{StringFailure}
use Rattle.rb_string.specs.declared.failure.StringFailure.TheVariants.{TooLong}

-- whether a String may have so many bytes: 2 ^ 28 at most
abbrev pub fits : ℕ → Bool
fits n = nat_le n 268435456

-- a String of these bytes, where it may be made
unfoldable pub limited : List ℕ → Result (List ℕ) StringFailure
limited text = if fits (length text) then Ok text else Err TooLong
