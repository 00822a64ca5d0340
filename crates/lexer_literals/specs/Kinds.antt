-- Kinds of bytes.
use Rattle.std.specs.Prelude.{ℕ, ◌-◌, ◌==◌, nat_le, Bool, ◌||◌, ◌&&◌, if◌then◌else◌}

abbrev pub between : ℕ → ℕ → ℕ → Bool
between low high b = nat_le low b && nat_le b high

abbrev pub is_digit : ℕ → Bool
is_digit b = between 48 57 b

-- a digit's value in bases up to 16, and 255 for any other byte
abbrev pub digit_value : ℕ → ℕ
digit_value b = if between 48 57 b then b - 48 else (if between 97 102 b then b - 87
    else (if between 65 70 b then b - 55 else 255))

-- a letter, _ or a byte past 0x7F: after a letter it is of the same name
abbrev pub goes_on : ℕ → Bool
goes_on b = between 97 122 b || between 65 90 b || (b == 95) || nat_le 128 b
