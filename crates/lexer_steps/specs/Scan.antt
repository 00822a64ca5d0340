-- Where runs of bytes end: from a place, over the bytes from there on.
use Rattle.std.specs.Prelude.{ℕ, ◌+◌, List, [], ◌∷◌, ◌==◌, not, Bool, ◌||◌, ◌&&◌, if◌then◌else◌, slice_index}
use Rattle.lexer_steps.specs.declared.scan.Run.{Run}
use Rattle.lexer_steps.specs.declared.scan.Run.TheVariants.{Name, WideName, Digits, Options, Comment}
use Rattle.lexer_tables.specs.ByteClass.{between, is_name_byte, is_name_start, is_digit, is_wide}

-- where a run of bytes of a class ends
unfoldable pub run_end : (ℕ → Bool) → ℕ → List ℕ → ℕ
run_end is at [] = at
run_end is at (x ∷ xs) = if is x then run_end is (at + 1) xs else at

abbrev pub is_wide_name_byte : ℕ → Bool
is_wide_name_byte b = is_name_byte b || is_wide b

abbrev pub is_small : ℕ → Bool
is_small b = between 97 122 b

abbrev pub ends_comment : ℕ → Bool
ends_comment b = (b == 10) || (b == 0)

abbrev pub is_comment_byte : ℕ → Bool
is_comment_byte b = not (ends_comment b)

-- the bytes of a run
abbrev pub belongs : Run → ℕ → Bool
belongs Name = is_name_byte
belongs WideName = is_wide_name_byte
belongs Digits = is_digit
belongs Options = is_small
belongs Comment = is_comment_byte

-- letters, digits and _
unfoldable pub name_end : ℕ → List ℕ → ℕ
name_end at xs = run_end is_name_byte at xs

unfoldable pub wide_end : ℕ → List ℕ → ℕ
wide_end at xs = run_end is_wide_name_byte at xs

unfoldable pub digit_end : ℕ → List ℕ → ℕ
digit_end at xs = run_end is_digit at xs

-- the options after a regular expression are small letters
unfoldable pub option_end : ℕ → List ℕ → ℕ
option_end at xs = run_end is_small at xs

-- a comment ends at a newline, or at a zero byte, which is no part of it
unfoldable pub comment_end : ℕ → List ℕ → ℕ
comment_end at xs = run_end is_comment_byte at xs

-- after the newline of a line, or at the text's end
unfoldable pub line_end : ℕ → List ℕ → ℕ
line_end at [] = at
line_end at (x ∷ xs) = if x == 10 then at + 1 else line_end (at + 1) xs

-- a ? or ! belongs to the name before it unless a = follows that is no part of == or =>
unfoldable pub mark_end : List ℕ → ℕ → ℕ
mark_end text at =
    let mark = slice_index text at in
    let after = slice_index text (at + 2) in
    if ((mark == 63) || (mark == 33)) && (not (slice_index text (at + 1) == 61) || (after == 61) || (after == 62))
    then at + 1 else at

-- a = belongs to the name after def before a parenthesis, or before a space and a name
unfoldable pub def_end : List ℕ → ℕ → ℕ
def_end text at =
    let next = slice_index text (at + 1) in
    if (slice_index text at == 61) && ((next == 40) || ((next == 32) && is_name_start (slice_index text (at + 2))))
    then at + 1 else at

-- a = belongs to the name of a symbol unless =, ~ or > follows
unfoldable pub symbol_end : List ℕ → ℕ → ℕ
symbol_end text at =
    let next = slice_index text (at + 1) in
    if slice_index text at == 61 then (if (next == 61) || (next == 126) || (next == 62) then at else at + 1)
    else mark_end text at
