-- The order of texts (ISO/IEC 30170:2012, 15.2.10).
use Rattle.std.specs.Prelude.{ℕ, ℤ, pos, negsuc, List, [], ◌∷◌, nat_lt, if◌then◌else◌}

-- -1, 0 or 1: the first bytes that differ decide, and where none do the longer text is greater
abbrev pub order : List ℕ → List ℕ → ℤ
order [] [] = pos 0
order [] (y ∷ ys) = negsuc 0
order (x ∷ xs) [] = pos 1
order (x ∷ xs) (y ∷ ys) = if nat_lt x y then negsuc 0 else (if nat_lt y x then pos 1 else order xs ys)
