-- Where one text stands in another (ISO/IEC 30170:2012, 15.2.10).
use Rattle.std.specs.Prelude.{ℕ, ℤ, List, length, Bool, is_some, Option}
use Rattle.memchr.specs.Find.{matches, rmatches, first_of}
use Rattle.rb_base.specs.Option.{◌>>=◌}
use Rattle.rb_string.specs.Slicing.{start}

-- the first place from one on
abbrev pub first_place : List ℕ → List ℕ → ℕ → Option ℕ
first_place text other from = first_of (matches text other from)

abbrev pub includes : List ℕ → List ℕ → Bool
includes text other = is_some (first_place text other 0)

abbrev pub index : List ℕ → List ℕ → ℤ → Option ℕ
index text other from = start (length text) from >>= λ p. first_place text other p

-- the last place, which is the first one from the end
abbrev pub last_index : List ℕ → List ℕ → Option ℕ
last_index text other = first_of (rmatches text other (length text))
