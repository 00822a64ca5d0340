-- Lists of different integers, in the order in which they were added.
use Rattle.std.specs.Prelude.{ℤ, List, [], ◌∷◌, ◌++◌, Bool, if◌then◌else◌}
use Rattle.std.specs.List.{list_any}
use Rattle.std.specs.Ordering.{int_eq}

-- whether an integer is one of a list
abbrev pub is_among : ℤ → List ℤ → Bool
is_among n ns = list_any (int_eq n) ns

-- the list with an integer at its end, where it isn't there yet
abbrev pub with_integer : List ℤ → ℤ → List ℤ
with_integer ns n = if is_among n ns then ns else ns ++ n ∷ []
