-- Marks, numbers and the openings of literals. Each step gives the state after the token and the place there.
use Rattle.std.specs.Prelude.{ℕ, ◌+◌, ◌==◌, nat_lt, not, Bool, true, false, ◌||◌, ◌&&◌, if◌then◌else◌, List, Option, Some, None, Result, Ok, Err, slice_index}
use Rattle.lexer_literals.specs.declared.fault.Fault.{Fault}
use Rattle.lexer_literals.specs.declared.numbers.Number.{Number}
use Rattle.lexer_literals.specs.declared.numbers.Tail.{Tail}
use Rattle.lexer_literals.specs.declared.numbers.Tail.TheVariants as tails
use Rattle.lexer_literals.specs.declared.plain_escapes.Delimiters.{Delimiters}
use Rattle.lexer_literals.specs.Numbers.{numeral_at}
use Rattle.rb_syntax.specs.declared.outside.Outside.TheVariants as outsides
use Rattle.rb_syntax.specs.declared.punctuator.Punctuator.TheVariants as marks
use Rattle.rb_syntax.specs.declared.token.TokenKind.{TokenKind}
use Rattle.rb_syntax.specs.declared.token.TokenKind.TheVariants as kinds
use Rattle.lexer_tables.specs.declared.context.Context.TheVariants as contexts
use Rattle.lexer_tables.specs.declared.marks.Mark.{Mark}
use Rattle.lexer_tables.specs.ByteClass.{between, is_letter, is_name_byte, is_punctuation, is_white}
use Rattle.lexer_tables.specs.Following.{expects_value, is_block, is_name, is_question, after_mark, after_symbol}
use Rattle.lexer_tables.specs.Marks.{mark_of}
use Rattle.lexer_steps.specs.declared.mode.Literal.{Literal}
use Rattle.lexer_steps.specs.declared.mode.Mode.{Mode}
use Rattle.lexer_steps.specs.declared.mode.Mode.TheVariants.{Braces, Interpolation, Text, Words, Body}
use Rattle.lexer_steps.specs.Closed.{closing, outside_step}
use Rattle.lexer_steps.specs.Names.{spelled, symbol_name_end}
use Rattle.lexer_steps.specs.State.{State, pushed, entered, left, top, interpolated}

abbrev pub marked : Option Mark → ℕ → State → Result (State × ℕ) ℕ
marked None at s = Err at
marked (Some m) at s = Ok (
  pushed s at (kinds.Punctuator m.punctuator) (after_mark s.context m.punctuator),
  at + m.length,
)

-- the longest mark at a place
unfoldable pub mark_step : List ℕ → ℕ → State → Result (State × ℕ) ℕ
mark_step text at s =
    marked (mark_of (slice_index text at) (slice_index text (at + 1)) (slice_index text (at + 2))) at s

-- a | opens the parameters of a block directly after { or do, and the next | closes them
abbrev pub bar_step : ℕ → State → Result (State × ℕ) ℕ
bar_step at s =
    if is_block s.context then Ok (
      record (pushed s at (kinds.Punctuator marks.OpenBar) contexts.Start) { bars = true },
      at + 1,
    )
    else Ok (record (pushed s at (kinds.Punctuator marks.CloseBar) contexts.Value) { bars = false }, at + 1)

abbrev pub open_brace_step : ℕ → State → Result (State × ℕ) ℕ
open_brace_step at s = Ok (entered (pushed s at (kinds.Punctuator marks.OpenBrace) contexts.Block) Braces, at + 1)

abbrev pub is_interpolation : Option Mode → Bool
is_interpolation None = false
is_interpolation (Some Braces) = false
is_interpolation (Some Interpolation) = true
is_interpolation (Some (Text d)) = false
is_interpolation (Some (Words d)) = false
is_interpolation (Some (Body b)) = false

-- a } ends the interpolation or the brace that was opened last
abbrev pub close_brace_step : ℕ → State → Result (State × ℕ) ℕ
close_brace_step at s =
    if is_interpolation (top s) then Ok (interpolated (pushed s at kinds.InterpolationEnd contexts.Operand), at + 1)
    else Ok (left (pushed s at (kinds.Punctuator marks.CloseBrace) contexts.Operand), at + 1)

-- the opening of a literal of so many bytes
abbrev pub open_literal : ℕ → ℕ → TokenKind → Mode → State → Result (State × ℕ) ℕ
open_literal at length kind mode s = Ok (entered (pushed s at kind contexts.Operand) mode, at + length)

abbrev pub between_marks : ℕ → ℕ → Delimiters
between_marks opener closer = record { «open» = opener; close = closer }

abbrev pub quoted : ℕ → Bool → Option ℕ → Literal
quoted quote double key = record { delimiters = between_marks quote quote; depth = 0; double = double; key = key }

-- a string in quotes; a colon after it makes it a key unless it stands after the ? of a conditional
unfoldable pub quote_step : List ℕ → ℕ → State → Result (State × ℕ) ℕ
quote_step text at s =
    let quote = slice_index text at in
    let key : Option ℕ = if is_question s.context then None else Some at in
    open_literal at 1 kinds.StringBegin (Text (quoted quote (quote == 34) key)) s

abbrev pub symbol_or_mark : List ℕ → ℕ → ℕ → State → Result (State × ℕ) ℕ
symbol_or_mark text at end s =
    if end == at + 1 then mark_step text at s
    else Ok (pushed s at (kinds.Symbol (spelled text (at + 1) end)) (after_symbol s.context), end)

-- a symbol where a value is expected or white space stands before, and else a mark
unfoldable pub colon_step : List ℕ → ℕ → State → Result (State × ℕ) ℕ
colon_step text at s =
    let next = slice_index text (at + 1) in
    if not (expects_value s.context) && not s.space then mark_step text at s
    else if (next == 34) || (next == 39)
    then open_literal at 2 kinds.SymbolBegin (Text (quoted next (next == 34) None)) s
    else symbol_or_mark text at (symbol_name_end text (at + 1)) s

abbrev pub number_kind : Option ℕ → Tail → TokenKind
number_kind (Some n) tails.Nothing = kinds.Integer n
number_kind None tails.Nothing = kinds.Outside outsides.WideInteger
number_kind value tails.Float = kinds.Outside outsides.Float
number_kind value tails.Rational = kinds.Outside outsides.Rational
number_kind value tails.Imaginary = kinds.Outside outsides.Imaginary

abbrev pub numbered : Result Number Fault → ℕ → State → Result (State × ℕ) ℕ
numbered (Ok n) at s = Ok (pushed s at (number_kind n.value n.tail) contexts.Operand, n.end)
numbered (Err f) at s = Err f.at

unfoldable pub number_step : List ℕ → ℕ → State → Result (State × ℕ) ℕ
number_step text at s = numbered (numeral_at text at) at s

-- a mark after an identifier and white space, with none after it
abbrev pub is_spaced : List ℕ → ℕ → State → Bool
is_spaced text at s = is_name s.context && s.space && not (is_white (slice_index text (at + 1)))

abbrev pub ambiguous_step : ℕ → State → Result (State × ℕ) ℕ
ambiguous_step at s = Ok (pushed s at (kinds.Outside outsides.Ambiguous) contexts.Start, at + 1)

-- a regular expression where a value is expected
unfoldable pub slash_step : List ℕ → ℕ → State → Result (State × ℕ) ℕ
slash_step text at s =
    if expects_value s.context then outside_step text at (at + 1) 47 outsides.Regexp s
    else if is_spaced text at s && not (slice_index text (at + 1) == 61) then ambiguous_step at s
    else mark_step text at s

unfoldable pub backquote_step : List ℕ → ℕ → State → Result (State × ℕ) ℕ
backquote_step text at s =
    if expects_value s.context then outside_step text at (at + 1) 96 outsides.Backquote s else Err at

-- a byte after ? is a string where it prints and is no backslash, and no name goes on after it
abbrev pub is_character : List ℕ → ℕ → Bool
is_character text at =
    let b = slice_index text (at + 1) in
    nat_lt 32 b && nat_lt b 127 && not (b == 92) && not (is_name_byte (slice_index text (at + 2)))

unfoldable pub question_step : List ℕ → ℕ → State → Result (State × ℕ) ℕ
question_step text at s =
    if expects_value s.context && is_character text at
    then Ok (pushed s at (kinds.Character (slice_index text (at + 1))) contexts.Operand, at + 2)
    else if is_spaced text at s then ambiguous_step at s
    else mark_step text at s

-- the delimiters ( [ { < | ! /
abbrev pub is_delimiter : ℕ → Bool
is_delimiter b = (b == 40) || (b == 91) || (b == 123) || (b == 60) || (b == 124) || (b == 33) || (b == 47)

-- the letters q Q w i with a delimiter
abbrev pub is_percent_letter : ℕ → ℕ → Bool
is_percent_letter letter delimiter =
    ((letter == 113) || (letter == 81) || (letter == 119) || (letter == 105)) && is_delimiter delimiter

abbrev pub percent_literal : ℕ → Bool → Literal
percent_literal opener double = record {
  delimiters = between_marks opener (closing opener);
  depth = 0;
  double = double;
  key = None;
}

unfoldable pub letter_step : ℕ → ℕ → ℕ → State → Result (State × ℕ) ℕ
letter_step at letter delimiter s =
    let literal = percent_literal delimiter (letter == 81) in
    if letter == 119 then open_literal at 3 kinds.WordsBegin (Words literal) s
    else if letter == 105 then open_literal at 3 kinds.SymbolsBegin (Words literal) s
    else open_literal at 3 kinds.StringBegin (Text literal) s

-- % where a value is expected: a literal of the language, one outside it, or a mark
unfoldable pub percent_value_step : List ℕ → ℕ → State → Result (State × ℕ) ℕ
percent_value_step text at s =
    let next = slice_index text (at + 1) in
    let second = slice_index text (at + 2) in
    if is_delimiter next then open_literal at 2 kinds.StringBegin (Text (percent_literal next true)) s
    else if is_percent_letter next second then letter_step at next second s
    else if is_letter next && is_punctuation second then outside_step text at (at + 3) second outsides.PercentLiteral s
    else if is_punctuation next then outside_step text at (at + 2) next outsides.PercentLiteral s
    else mark_step text at s

-- elsewhere % begins a literal after an identifier and white space alone
unfoldable pub percent_step : List ℕ → ℕ → State → Result (State × ℕ) ℕ
percent_step text at s =
    let next = slice_index text (at + 1) in
    let second = slice_index text (at + 2) in
    if expects_value s.context then percent_value_step text at s
    else if not (is_spaced text at s) || (next == 61) then mark_step text at s
    else if is_percent_letter next second then letter_step at next second s
    else ambiguous_step at s

abbrev pub semicolon_step : ℕ → State → Result (State × ℕ) ℕ
semicolon_step at s = Ok (pushed s at kinds.Semicolon contexts.Start, at + 1)

unfoldable pub pipe_step : List ℕ → ℕ → State → Result (State × ℕ) ℕ
pipe_step text at s = if is_block s.context || s.bars then bar_step at s else mark_step text at s

-- a number, a mark or the opening of a literal
unfoldable pub sign_step : List ℕ → ℕ → State → Result (State × ℕ) ℕ
sign_step text at s =
    let b = slice_index text at in
    if between 48 57 b then number_step text at s
    else if (b == 34) || (b == 39) then quote_step text at s
    else if b == 58 then colon_step text at s
    else if b == 123 then open_brace_step at s
    else if b == 125 then close_brace_step at s
    else if b == 124 then pipe_step text at s
    else if b == 59 then semicolon_step at s
    else if b == 47 then slash_step text at s
    else if b == 63 then question_step text at s
    else if b == 37 then percent_step text at s
    else if b == 96 then backquote_step text at s
    else mark_step text at s
