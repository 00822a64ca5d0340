-- A count that stays at its greatest number.
use Rattle.std.specs.Prelude.{ℕ, ◌+◌, min}

-- one more, up to 2^64 - 1, where a count stays
abbrev pub one_more : ℕ → ℕ
one_more n = min (n + 1) 18446744073709551615
