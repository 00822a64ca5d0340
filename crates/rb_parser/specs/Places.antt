-- The place of a refusal: that of a token, or the end of the text.
use Rattle.std.specs.Prelude.{ℕ, ◌-◌, [], ◌∷◌, length, drop, min}
use Rattle.parser_forms.specs.Reading.{Tokens}

-- the place of the token with which so many are left, or else the end of a text of that size
abbrev pub place_in : Tokens → ℕ → ℕ
place_in [] size = size
place_in (t ∷ ts) size = min t.at size

abbrev pub place : Tokens → ℕ → ℕ → ℕ
place ts left size = place_in (drop (length ts - left) ts) size
