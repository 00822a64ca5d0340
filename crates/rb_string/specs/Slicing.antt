-- What stands at indexes of a text (ISO/IEC 30170:2012, 15.2.10).
use Rattle.std.specs.Prelude.{ℕ, suc, ◌+◌, ◌-◌, ℤ, pos, negsuc, List, length, take, drop, slice_get, slice_range, Bool, true, false, nat_lt, nat_le, Option, None, Some, if◌then◌else◌}
use Rattle.rb_base.specs.Option.{◌>>=◌}

-- The place that an index stands for in a text of that size: from the end where the index is below 0. It may be behind
-- the end; before the start there is none.
abbrev pub place : ℕ → ℤ → Option ℕ
place size (pos i) = Some i
place size (negsuc i) = if nat_lt i size then Some (size - suc i) else None

-- the place of an index, where it isn't behind the end
abbrev pub start : ℕ → ℤ → Option ℕ
start size index = place size index >>= λ p. if nat_le p size then Some p else None

abbrev pub byte : List ℕ → ℤ → Option ℕ
byte text index = place (length text) index >>= λ p. slice_get text p

-- so many bytes from an index on, or all where there are fewer
abbrev pub part : List ℕ → ℤ → ℤ → Option (List ℕ)
part text index (pos n) = start (length text) index >>= λ p. Some (take n (drop p text))
part text index (negsuc n) = None

-- the place up to which a range goes, which has that last index or leaves it out
abbrev pub behind : ℕ → ℤ → Bool → ℕ
behind size (pos i) true = i
behind size (pos i) false = i + 1
behind size (negsuc i) true = size - suc i
behind size (negsuc i) false = size - i

abbrev pub range_part : List ℕ → ℤ → ℤ → Bool → Option (List ℕ)
range_part text first last exclusive =
    start (length text) first >>= λ p. Some (slice_range text p (behind (length text) last exclusive))
