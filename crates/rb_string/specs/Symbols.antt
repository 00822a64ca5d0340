-- Symbols as a program would write them (ISO/IEC 30170:2012, 15.2.11).
use Rattle.std.specs.Prelude.{ℕ, ◌-◌, List, [], ◌∷◌, ◌++◌, drop, length, slice_index, codes, Bool, ◌==◌, ◌&&◌, ◌||◌, Result, if◌then◌else◌}
use Rattle.std.specs.Char.{is_ascii_alphabetic, is_ascii_digit}
use Rattle.std.specs.List.{list_any, prefix_len}
use Rattle.std.specs.Str.{bytes_eq}
use Rattle.rb_string.specs.declared.failure.StringFailure.{StringFailure}
use Rattle.rb_string.specs.Limit.{limited}
use Rattle.rb_string.specs.Inspection.{escaped}
use Rattle.rb_string.specs.Stripping.{without_last}

abbrev pub begins_name : ℕ → Bool
begins_name b = is_ascii_alphabetic b || b == 95

abbrev pub is_name_byte : ℕ → Bool
is_name_byte b = begins_name b || is_ascii_digit b

abbrev pub is_name : List ℕ → Bool
is_name text = begins_name (slice_index text 0) && prefix_len is_name_byte text == length text

-- the mark that may stand behind a name of a method: ? or ! or =
abbrev pub is_mark : ℕ → Bool
is_mark b = b == 63 || b == 33 || b == 61

abbrev pub without_mark : List ℕ → List ℕ
without_mark text = if is_mark (slice_index text (length text - 1)) then without_last text 1 else text

-- the names of methods that are operators
unfoldable pub operators : List (List ℕ)
operators = codes "!" ∷ codes "!=" ∷ codes "!~" ∷ codes "%" ∷ codes "&" ∷ codes "*" ∷ codes "**" ∷ codes "+" ∷
    codes "+@" ∷ codes "-" ∷ codes "-@" ∷ codes "/" ∷ codes "<" ∷ codes "<<" ∷ codes "<=" ∷ codes "<=>" ∷ codes "==" ∷
    codes "===" ∷ codes "=~" ∷ codes ">" ∷ codes ">=" ∷ codes ">>" ∷ codes "[]" ∷ codes "[]=" ∷ codes "^" ∷ codes "`" ∷
    codes "|" ∷ codes "~" ∷ []

abbrev pub is_operator : List ℕ → Bool
is_operator text = list_any (bytes_eq text) operators

-- an instance variable or a global one
abbrev pub is_variable : List ℕ → Bool
is_variable text = (slice_index text 0 == 64 || slice_index text 0 == 36) && is_name (drop 1 text)

-- whether a symbol of that name is written without quotes
abbrev pub is_plain : List ℕ → Bool
is_plain text = is_name (without_mark text) || is_operator text || is_variable text

abbrev pub inspected : List ℕ → Result (List ℕ) StringFailure
inspected text =
    if is_plain text then limited (codes ":" ++ text) else limited (codes ":\"" ++ escaped text ++ codes "\"")
