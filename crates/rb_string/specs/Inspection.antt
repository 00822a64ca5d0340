-- Texts as a program would write them (ISO/IEC 30170:2012, 15.2.10).
use Rattle.std.specs.Prelude.{ℕ, ◌-◌, ◌/◌, ◌%◌, List, [], ◌∷◌, ◌++◌, Bool, true, codes, nat_le, ◌==◌, ◌&&◌, ◌||◌, Option, Some, None, Result, slice_index, if◌then◌else◌}
use Rattle.std.specs.Fmt.{digit_glyph}
use Rattle.rb_string.specs.declared.failure.StringFailure.{StringFailure}
use Rattle.rb_string.specs.Limit.{limited}

-- what stands behind a backslash for the byte, where something does: `"` and `\` themselves, `e` for 27, and the
-- letters of 7 to 13
abbrev pub letter : ℕ → Option ℕ
letter b =
    if b == 34 then Some 34
    else (if b == 92 then Some 92
    else (if b == 27 then Some 101
    else (if nat_le 7 b && nat_le b 13 then Some (slice_index (codes "abtnvfr") (b - 7)) else None)))

-- two hexadecimal digits with capital letters
abbrev pub hexadecimal : ℕ → List ℕ
hexadecimal b = 92 ∷ 120 ∷ digit_glyph true (b / 16) ∷ digit_glyph true (b % 16) ∷ []

-- # before { $ or @
abbrev pub is_interpolation : ℕ → ℕ → Bool
is_interpolation b next = b == 35 && (next == 123 || next == 36 || next == 64)

-- a printable byte as it is, but with a backslash where it would begin an interpolation
abbrev pub shown_plain : ℕ → ℕ → List ℕ
shown_plain b next =
    if is_interpolation b next then codes "\\#"
    else (if nat_le 32 b && nat_le b 126 then b ∷ []
    else hexadecimal b)

abbrev pub shown_by : Option ℕ → ℕ → ℕ → List ℕ
shown_by (Some l) b next = 92 ∷ l ∷ []
shown_by None b next = shown_plain b next

-- a byte before the next one
unfoldable pub shown : ℕ → ℕ → List ℕ
shown b next = shown_by (letter b) b next

-- a text of one byte in quotes
abbrev pub quoted : ℕ → List ℕ
quoted b = codes "\"" ++ shown b 0 ++ codes "\""

unfoldable pub escaped : List ℕ → List ℕ
escaped [] = []
escaped (x ∷ xs) = shown x (slice_index xs 0) ++ escaped xs

abbrev pub inspected : List ℕ → Result (List ℕ) StringFailure
inspected text = limited (codes "\"" ++ escaped text ++ codes "\"")
