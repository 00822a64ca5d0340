-- Texts in place of others (ISO/IEC 30170:2012, 15.2.10).
use Rattle.std.specs.Prelude.{ℕ, ◌+◌, List, [], ◌∷◌, ◌++◌, length, take, drop, slice_range, nat_le, ◌==◌, ◌&&◌, ◌||◌, Option, None, Some, Result, if◌then◌else◌}
use Rattle.memchr.specs.Find.{matches}
use Rattle.rb_string.specs.declared.failure.StringFailure.{StringFailure}
use Rattle.rb_string.specs.Limit.{limited}
use Rattle.rb_string.specs.Searching.{first_place}

-- What a byte behind a backslash stands for where n bytes at a place are replaced: 0 and & for these, ` for what stands
-- before them, ' for what stands behind them, a backslash for itself, 1 to 9 for nothing. Before any other byte the
-- backslash stays.
unfoldable pub reference : List ℕ → ℕ → ℕ → ℕ → List ℕ
reference text at n b =
    if b == 48 || b == 38 then take n (drop at text)
    else (if b == 96 then take at text
    else (if b == 39 then drop n (drop at text)
    else (if b == 92 then b ∷ []
    else (if nat_le 49 b && nat_le b 57 then []
    else 92 ∷ b ∷ []))))

-- what is put in place of n bytes at a place
unfoldable pub expanded : List ℕ → ℕ → ℕ → List ℕ → List ℕ
expanded text at n [] = []
expanded text at n (x ∷ []) = x ∷ []
expanded text at n (x ∷ y ∷ ys) =
    if x == 92 then reference text at n y ++ expanded text at n ys else x ∷ expanded text at n (y ∷ ys)

-- a text with others in place of n bytes at a place, if there is one
abbrev pub with_one : List ℕ → ℕ → (ℕ → List ℕ) → Option ℕ → List ℕ
with_one text n new None = text
with_one text n new (Some at) = take at text ++ new at ++ drop n (drop at text)

abbrev pub substituted : List ℕ → List ℕ → List ℕ → Result (List ℕ) StringFailure
substituted text pattern new =
    let n = length pattern in
    limited (with_one text n (λ at. expanded text at n new) (first_place text pattern 0))

-- the text behind a place, with others in place of n bytes at each of the places that follow
unfoldable pub with_each : List ℕ → ℕ → (ℕ → List ℕ) → ℕ → List ℕ → List ℕ
with_each text n new from [] = drop from text
with_each text n new from (at ∷ later) = slice_range text from at ++ new at ++ with_each text n new (at + n) later

abbrev pub substituted_everywhere : List ℕ → List ℕ → List ℕ → Result (List ℕ) StringFailure
substituted_everywhere text pattern new =
    let n = length pattern in
    limited (with_each text n (λ at. expanded text at n new) 0 (matches text pattern 0))
