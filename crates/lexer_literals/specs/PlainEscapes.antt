-- The escapes of string literals without interpolation.
use Rattle.std.specs.Prelude.{ℕ, ◌+◌, List, length, slice_index, ◌==◌, nat_lt, if◌then◌else◌, Bool, ◌||◌, ◌&&◌}
use Rattle.lexer_literals.specs.declared.escaped.Escape.{Escape}
use Rattle.lexer_literals.specs.declared.escaped.Escaped.TheVariants.{Byte}
use Rattle.lexer_literals.specs.declared.plain_escapes.Delimiters.{Delimiters}

-- white space between words: space, tab, newline and carriage return
abbrev pub is_word_space : ℕ → Bool
is_word_space b = (b == 32) || (b == 9) || (b == 10) || (b == 13)

-- a delimiter or a backslash
abbrev pub is_mark : ℕ → Delimiters → Bool
is_mark b delimiters = (b == delimiters.open) || (b == delimiters.close) || (b == 92)

abbrev pub byte_escape : ℕ → ℕ → Escape
byte_escape end byte = record { end = end; stands_for = Byte byte }

-- After a backslash a delimiter and a backslash stand for themselves; before anything else the backslash does,
-- and what follows is none of the escape.
unfoldable pub plain_escape_at : List ℕ → ℕ → Delimiters → Escape
plain_escape_at text at delimiters =
    let byte = slice_index text at in
    if nat_lt at (length text) && is_mark byte delimiters then byte_escape (at + 1) byte else byte_escape at 92

-- in a list of words white space stands for itself, too
unfoldable pub word_escape_at : List ℕ → ℕ → Delimiters → Escape
word_escape_at text at delimiters =
    let byte = slice_index text at in
    if nat_lt at (length text) && is_word_space byte then byte_escape (at + 1) byte
    else plain_escape_at text at delimiters
