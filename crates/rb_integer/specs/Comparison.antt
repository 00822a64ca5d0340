-- Comparisons and tests (ISO/IEC 30170:2012, 15.2.8).
use Rattle.std.specs.Prelude.{zero, suc, ◌%◌, ℤ, pos, negsuc, unsigned_abs, int_lt, int_le, Bool, true, false, not, ◌&&◌, ◌==◌, if◌then◌else◌}

-- -1, 0 or 1, as x is below, at or above y
abbrev pub order : ℤ → ℤ → ℤ
order x y = if int_lt x y then negsuc 0 else (if int_lt y x then pos 1 else pos 0)

abbrev pub is_equal : ℤ → ℤ → Bool
is_equal x y = int_le x y && int_le y x

abbrev pub is_between : ℤ → ℤ → ℤ → Bool
is_between x low high = int_le low x && int_le x high

-- the lower bound comes first, also where it is above the upper one
abbrev pub clamped : ℤ → ℤ → ℤ → ℤ
clamped x low high = if int_lt x low then low else (if int_lt high x then high else x)

abbrev pub is_zero : ℤ → Bool
is_zero (pos zero) = true
is_zero (pos (suc n)) = false
is_zero (negsuc n) = false

abbrev pub is_even : ℤ → Bool
is_even x = unsigned_abs x % 2 == 0

abbrev pub is_odd : ℤ → Bool
is_odd x = not (is_even x)

abbrev pub is_positive : ℤ → Bool
is_positive x = int_lt (pos 0) x

abbrev pub is_negative : ℤ → Bool
is_negative x = int_lt x (pos 0)
