-- Classes of bytes.
use Rattle.std.specs.Prelude.{ℕ, ◌==◌, nat_le, nat_lt, not, Bool, ◌||◌, ◌&&◌}

abbrev pub between : ℕ → ℕ → ℕ → Bool
between low high b = nat_le low b && nat_le b high

-- space, tab, carriage return
abbrev pub is_blank : ℕ → Bool
is_blank b = (b == 32) || (b == 9) || (b == 13)

abbrev pub is_white : ℕ → Bool
is_white b = is_blank b || (b == 10)

abbrev pub is_digit : ℕ → Bool
is_digit b = between 48 57 b

abbrev pub is_capital : ℕ → Bool
is_capital b = between 65 90 b

abbrev pub is_letter : ℕ → Bool
is_letter b = between 97 122 b || is_capital b

abbrev pub is_name_start : ℕ → Bool
is_name_start b = is_letter b || (b == 95)

abbrev pub is_name_byte : ℕ → Bool
is_name_byte b = is_name_start b || is_digit b

-- a byte past ASCII
abbrev pub is_wide : ℕ → Bool
is_wide b = nat_lt 127 b

-- what prints in ASCII and is no letter, digit, space or _
abbrev pub is_punctuation : ℕ → Bool
is_punctuation b = nat_lt 32 b && nat_lt b 127 && not (is_name_byte b)
