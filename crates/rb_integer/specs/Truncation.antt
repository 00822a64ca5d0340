-- How division that rounds toward zero differs from division that rounds down.
use Rattle.std.specs.Prelude.{suc, ◌%◌, ℤ, pos, negsuc, Bool, false, not, ◌==◌}

-- whether rounding toward zero rounds up: the signs differ, and the division leaves a remainder
abbrev pub is_rounded_up : ℤ → ℤ → Bool
is_rounded_up (pos a) (pos d) = false
is_rounded_up (pos a) (negsuc d) = not (a % suc d == 0)
is_rounded_up (negsuc a) (pos d) = not (suc a % d == 0)
is_rounded_up (negsuc a) (negsuc d) = false
