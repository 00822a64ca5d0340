-- Small and capital letters of ASCII (ISO/IEC 30170:2012, 15.2.10).
use Rattle.std.specs.Prelude.{ℕ, List, [], ◌∷◌, map, if◌then◌else◌}
use Rattle.std.specs.Char.{is_ascii_lowercase, to_ascii_lowercase, to_ascii_uppercase}

abbrev pub upcased : List ℕ → List ℕ
upcased text = map to_ascii_uppercase text

abbrev pub downcased : List ℕ → List ℕ
downcased text = map to_ascii_lowercase text

abbrev pub capitalized : List ℕ → List ℕ
capitalized [] = []
capitalized (x ∷ xs) = to_ascii_uppercase x ∷ downcased xs

abbrev pub swapped_byte : ℕ → ℕ
swapped_byte b = if is_ascii_lowercase b then to_ascii_uppercase b else to_ascii_lowercase b

abbrev pub swapped : List ℕ → List ℕ
swapped text = map swapped_byte text
