-- A text as it is read: a carriage return right before a newline isn't there.
use Rattle.std.specs.Prelude.{ℕ, ◌+◌, ◌-◌, List, [], ◌∷◌, ◌==◌, Bool, false, ◌&&◌, if◌then◌else◌}

-- whether a byte is a carriage return, and a newline stands behind it
abbrev pub ends_line : ℕ → List ℕ → Bool
ends_line b [] = false
ends_line b (c ∷ bs) = (b == 13) && (c == 10)

unfoldable pub as_read : List ℕ → List ℕ
as_read [] = []
as_read (b ∷ bs) = if ends_line b bs then as_read bs else b ∷ as_read bs

-- from a place and the bytes there on: the place of the byte before which so many are read, or the end
unfoldable pub place_from : ℕ → List ℕ → ℕ → ℕ
place_from at [] count = at
place_from at (b ∷ bs) count =
    if count == 0 then at else place_from (at + 1) bs (if ends_line b bs then count else count - 1)

-- the place in a text of what stands at a place of the text as it is read
abbrev pub place_in : List ℕ → ℕ → ℕ
place_in text place = place_from 0 text place
