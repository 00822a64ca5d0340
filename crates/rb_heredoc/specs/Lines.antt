-- The lines of a text.
use Rattle.std.specs.Prelude.{ℕ, ◌+◌, List, [], ◌∷◌, ◌==◌, Bool, true, ◌||◌, ◌&&◌, if◌then◌else◌}
use Rattle.std.specs.Io.BufRead.{strip_last}

-- a byte before some lines belongs to the first of them
abbrev pub with_byte : ℕ → List (List ℕ) → List (List ℕ)
with_byte x [] = (x ∷ []) ∷ []
with_byte x (line ∷ lines) = (x ∷ line) ∷ lines

-- the lines of a text, each with its newline, which the last may lack
unfoldable pub lines_of : List ℕ → List (List ℕ)
lines_of [] = []
lines_of (x ∷ xs) = if x == 10 then (x ∷ []) ∷ lines_of xs else with_byte x (lines_of xs)

-- the place after the first line, from a place and the bytes there
unfoldable pub line_end : ℕ → List ℕ → ℕ
line_end at [] = at
line_end at (x ∷ xs) = if x == 10 then at + 1 else line_end (at + 1) xs

-- white space within a line: space, tab and carriage return
abbrev pub is_white : ℕ → Bool
is_white b = (b == 32) || (b == 9) || (b == 13)

unfoldable pub are_white : List ℕ → Bool
are_white [] = true
are_white (x ∷ xs) = is_white x && are_white xs

-- what stands in a line: neither its newline nor a carriage return before that counts
abbrev pub content : List ℕ → List ℕ
content line = strip_last 13 (strip_last 10 line)
