-- A text as the language writes it: in quotes, with escapes.
use Rattle.std.specs.Prelude.{ℕ, ◌+◌, ◌/◌, ◌%◌, List, [], ◌∷◌, ◌++◌, Option, Some, None, Bool, false, ◌&&◌, ◌||◌, nat_eq, nat_lt, nat_le, if◌then◌else◌}

-- after `#`, an insertion would begin at `{`, `$` or `@`
abbrev pub begins_insertion : List ℕ → Bool
begins_insertion [] = false
begins_insertion (c ∷ cs) = nat_eq c 123 || nat_eq c 36 || nat_eq c 64

-- what stands after the backslash, for a byte with a letter of its own
abbrev pub letter_of : ℕ → Option ℕ
letter_of c =
    if nat_eq c 7 then Some 97
    else if nat_eq c 8 then Some 98
    else if nat_eq c 9 then Some 116
    else if nat_eq c 10 then Some 110
    else if nat_eq c 11 then Some 118
    else if nat_eq c 12 then Some 102
    else if nat_eq c 13 then Some 114
    else if nat_eq c 27 then Some 101
    else if nat_eq c 34 then Some 34
    else if nat_eq c 92 then Some 92
    else None

-- the same, with `#` where an insertion would begin after it
abbrev pub escape_of : ℕ → Bool → Option ℕ
escape_of c inserts = if nat_eq c 35 && inserts then Some 35 else letter_of c

-- a hexadecimal digit, in capitals
abbrev pub hexadecimal : ℕ → ℕ
hexadecimal d = if nat_lt d 10 then 48 + d else 55 + d

abbrev pub is_printable : ℕ → Bool
is_printable c = nat_le 32 c && nat_le c 126

-- a byte without a letter: a printable one as it is, another by its two hexadecimal digits
abbrev pub unescaped : ℕ → List ℕ
unescaped c = if is_printable c then c ∷ [] else 92 ∷ (120 ∷ (hexadecimal (c / 16) ∷ (hexadecimal (c % 16) ∷ [])))

abbrev pub written_by : ℕ → Option ℕ → List ℕ
written_by c (Some letter) = 92 ∷ (letter ∷ [])
written_by c None = unescaped c

unfoldable pub inspected_byte : ℕ → Bool → List ℕ
inspected_byte c inserts = written_by c (escape_of c inserts)

unfoldable pub inspected_bytes : List ℕ → List ℕ
inspected_bytes [] = []
inspected_bytes (c ∷ cs) = inspected_byte c (begins_insertion cs) ++ inspected_bytes cs

unfoldable pub inspected : List ℕ → List ℕ
inspected text = 34 ∷ (inspected_bytes text ++ 34 ∷ [])
