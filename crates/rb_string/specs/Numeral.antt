-- Numbers that texts begin with (ISO/IEC 30170:2012, 15.2.10).
use Rattle.std.specs.Prelude.{ℕ, ◌+◌, ◌-◌, ◌*◌, ℤ, pos, negsuc, neg_ℤ, List, [], ◌∷◌, drop, slice_index, Bool, true, false, nat_lt, nat_le, ◌==◌, ◌&&◌, ◌||◌, Result, Ok, Err, if◌then◌else◌}
use Rattle.std.specs.List.{prefix_len}
use Rattle.rb_string.specs.declared.failure.StringFailure.{StringFailure}
use Rattle.rb_string.specs.declared.failure.StringFailure.TheVariants.{BadBase, Overflow, OutsideText}
use Rattle.rb_string.specs.Stripping.{is_space}

-- the value of a digit or a letter, or 36
abbrev pub digit_value : ℕ → ℕ
digit_value b =
    if nat_le 48 b && nat_le b 57 then b - 48
    else (if nat_le 97 b && nat_le b 122 then b - 97 + 10
    else (if nat_le 65 b && nat_le b 90 then b - 65 + 10
    else 36))

abbrev pub is_digit : ℕ → ℕ → Bool
is_digit base b = nat_lt (digit_value b) base

abbrev pub after_spaces : List ℕ → List ℕ
after_spaces text = drop (prefix_len is_space text) text

abbrev pub after_sign : List ℕ → List ℕ
after_sign text = if slice_index text 0 == 43 || slice_index text 0 == 45 then drop 1 text else text

-- 0b is the prefix of base 2, 0o that of 8 and 0x that of 16, the letter small or capital
abbrev pub is_prefix_letter : ℕ → ℕ → Bool
is_prefix_letter base letter =
    if base == 2 then letter == 98 || letter == 66
    else (if base == 8 then letter == 111 || letter == 79
    else base == 16 && (letter == 120 || letter == 88))

abbrev pub after_prefix : ℕ → List ℕ → List ℕ
after_prefix base text =
    if slice_index text 0 == 48 && is_prefix_letter base (slice_index text 1) then drop 2 text else text

-- the value of digits after some of that value, as far as they go; a single _ may stand before a digit
unfoldable pub digits : ℕ → ℕ → List ℕ → ℕ
digits base value [] = value
digits base value (x ∷ xs) =
    if is_digit base x then digits base (value * base + digit_value x) xs
    else (if x == 95 && is_digit base (slice_index xs 0) then digits base value xs
    else value)

-- the value of the digits that a text begins with, or 0
unfoldable pub number : ℕ → List ℕ → ℕ
number base text = if is_digit base (slice_index text 0) then digits base 0 text else 0

-- an Integer is from -2 ^ 63 to 2 ^ 63 - 1
abbrev pub signed : Bool → ℕ → Result ℤ StringFailure
signed true n = if nat_le n 9223372036854775808 then Ok (neg_ℤ (pos n)) else Err Overflow
signed false n = if nat_lt n 9223372036854775808 then Ok (pos n) else Err Overflow

unfoldable pub number_of : ℕ → List ℕ → Result ℤ StringFailure
number_of base text = signed (slice_index text 0 == 45) (number base (after_prefix base (after_sign text)))

abbrev pub to_integer : List ℕ → ℤ → Result ℤ StringFailure
to_integer text (pos base) =
    if nat_le 2 base && nat_le base 36 then number_of base (after_spaces text) else Err BadBase
to_integer text (negsuc base) = Err BadBase

abbrev pub ordinal : List ℕ → Result ℕ StringFailure
ordinal [] = Err (OutsideText (pos 0))
ordinal (x ∷ xs) = Ok x
