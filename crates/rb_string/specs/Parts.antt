-- Texts in parts (ISO/IEC 30170:2012, 15.2.10).
use Rattle.std.specs.Prelude.{ℕ, ◌+◌, ◌-◌, ◌≤◌, List, [], ◌∷◌, map, length, take, slice_index, slice_range, Bool, nat_lt, not, ◌==◌, ◌&&◌, if◌then◌else◌}
use Rattle.std.specs.List.{filter, suffix_len, range_with_len, All}
use Rattle.memchr.specs.Find.{is_byte, places, matches}
use Rattle.rb_string.specs.declared.part.Part.{Part}
use Rattle.rb_string.specs.Stripping.{is_space}

abbrev pub part : ℕ → ℕ → Part
part start end = record { start = start; end = end }

-- the bytes of a part
abbrev pub text_of : List ℕ → Part → List ℕ
text_of text p = slice_range text p.start p.end

abbrev pub IsWithin : List ℕ → Part → Type 0
IsWithin text p = (p.start ≤ p.end) × (p.end ≤ length text)

abbrev pub AllWithin : List ℕ → List Part → Type 0
AllWithin text ps = All (IsWithin text) ps

abbrev pub has_bytes : Part → Bool
has_bytes p = nat_lt p.start p.end

abbrev pub some_part : ℕ → ℕ → List Part
some_part start end = filter has_bytes (part start end ∷ [])

-- each byte
abbrev pub characters : List ℕ → List Part
characters text = map (λ k. part k (k + 1)) (range_with_len 0 (length text))

-- the parts from a place on, each of which ends behind one of the places that follow, and what stands behind the last
-- one, where something does
unfoldable pub ended : ℕ → ℕ → List ℕ → List Part
ended size from [] = some_part from size
ended size from (at ∷ later) = part from (at + 1) ∷ ended size (at + 1) later

abbrev pub lines : List ℕ → List Part
lines text = ended (length text) 0 (places (is_byte 10) text)

-- the parts from a place on, between those of n bytes at each of the places that follow
unfoldable pub between : ℕ → ℕ → ℕ → List ℕ → List Part
between size n from [] = part from size ∷ []
between size n from (at ∷ later) = part from at ∷ between size n (at + n) later

-- what stands between white space
abbrev pub words : List ℕ → List Part
words text = filter has_bytes (between (length text) 1 0 (places is_space text))

abbrev pub parts_between : List ℕ → List ℕ → List Part
parts_between text separator = between (length text) (length separator) 0 (matches text separator 0)

abbrev pub length_without_empty_end : List Part → ℕ
length_without_empty_end ps = length ps - suffix_len (λ p. not (has_bytes p)) ps

abbrev pub separated : List ℕ → List ℕ → List Part
separated text separator =
    let ps = parts_between text separator in
    take (length_without_empty_end ps) ps

abbrev pub split : List ℕ → List ℕ → List Part
split text separator =
    if length separator == 0 then characters text
    else (if length separator == 1 && slice_index separator 0 == 32 then words text
    else separated text separator)
