-- The texts of Integers (ISO/IEC 30170:2012, 15.2.8), and their one-byte Strings.
use Rattle.std.specs.Prelude.{◌≡◌, ◌<◌, slice_index, ℕ, zero, suc, ℤ, pos, negsuc, List, ◌∷◌, map, codes, false, nat_lt, nat_le, ◌&&◌, Result, Ok, Err, if◌then◌else◌}
use Rattle.std.specs.Fmt.{digit_glyph}
use Rattle.std.specs.Int.Digits.{digits_of, number_from_digits, AllBelowBase}
use Rattle.rb_integer.specs.declared.failure.IntegerFailure.{IntegerFailure}
use Rattle.rb_integer.specs.declared.failure.IntegerFailure.TheVariants.{BadBase, OutsideCharacters}

-- what the digits of a number above 0 are: each is below the base, their value is the number, and the first isn't 0
pub record IsDigitsOf (base n : ℕ) (ds : List ℕ) : Type 0 where
  pub below : AllBelowBase base ds
  pub value : number_from_digits base ds ≡ n
  pub leading : 0 < slice_index ds 0

-- The digits of a number in a base, the highest first, in 0 to 9 and small letters: the one list of digits with this
-- value that doesn't begin with 0, and none for 0.
unfoldable pub letters : ℕ → ℕ → List ℕ
letters base n = map (digit_glyph false) (digits_of base n)

-- the numeral, with a sign below 0
abbrev pub numeral : ℕ → ℤ → List ℕ
numeral base (pos zero) = codes "0"
numeral base (pos (suc n)) = letters base (suc n)
numeral base (negsuc n) = 45 ∷ letters base (suc n)

abbrev pub text : ℤ → ℤ → Result (List ℕ) IntegerFailure
text z (pos base) = if nat_le 2 base && nat_le base 36 then Ok (numeral base z) else Err BadBase
text z (negsuc base) = Err BadBase

-- the byte of a number
abbrev pub character : ℤ → Result ℕ IntegerFailure
character (pos n) = if nat_lt n 256 then Ok n else Err (OutsideCharacters (pos n))
character (negsuc n) = Err (OutsideCharacters (negsuc n))
