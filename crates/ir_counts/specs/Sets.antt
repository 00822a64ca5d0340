-- Lists of different texts and integers, with one more where there is one.
use Rattle.std.specs.Prelude.{ℕ, ℤ, List, Option, Some, None}
use Rattle.integer_set.specs.Sets.{with_integer}
use Rattle.text_set.specs.Sets.{with_text}

abbrev pub with_optional : List (List ℕ) → Option (List ℕ) → List (List ℕ)
with_optional texts None = texts
with_optional texts (Some x) = with_text texts x

abbrev pub with_optional_integer : List ℤ → Option ℤ → List ℤ
with_optional_integer ns None = ns
with_optional_integer ns (Some n) = with_integer ns n
