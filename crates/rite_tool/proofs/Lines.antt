-- The last line of a text, byte by byte.
use Rattle.std.proofs.Common.{◌≡◌, ℕ, ◌+◌, ◌<◌, List, length, get_or, drop, add-one, drop-cons, nat_eq, if◌then◌else◌}
use Rattle.rite_tool.specs.Sampling.{line_at_end}

pub line_from : (begun xs : List ℕ) (i : ℕ) → i < length xs
    → line_at_end begun (drop i xs)
    ≡ (if nat_eq (get_or xs i 0) 10 then line_at_end (drop (i + 1) xs) (drop (i + 1) xs)
    else line_at_end begun (drop (i + 1) xs))
line_from begun xs i h = rw (add-one, drop-cons xs i 0)
