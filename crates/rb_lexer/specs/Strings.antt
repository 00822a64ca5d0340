-- The insides of literals. Each step gives the state after it and the place there.
use Rattle.std.specs.Prelude.{ℕ, ◌+◌, ◌-◌, ◌==◌, Bool, if◌then◌else◌, List, Option, Some, None, Result, Ok, Err, slice_index}
use Rattle.lexer_literals.specs.declared.fault.Fault.{Fault}
use Rattle.lexer_literals.specs.declared.escaped.Escape.{Escape}
use Rattle.lexer_literals.specs.declared.plain_escapes.Delimiters.{Delimiters}
use Rattle.lexer_literals.specs.Escaping.{bytes_of}
use Rattle.lexer_literals.specs.Modified.{full_escape_at}
use Rattle.lexer_literals.specs.PlainEscapes.{plain_escape_at, word_escape_at}
use Rattle.rb_syntax.specs.declared.outside.Outside.TheVariants as outsides
use Rattle.rb_syntax.specs.declared.token.TokenKind.TheVariants as kinds
use Rattle.lexer_tables.specs.declared.context.Context.TheVariants as contexts
use Rattle.lexer_tables.specs.ByteClass.{is_white}
use Rattle.lexer_steps.specs.declared.mode.Literal.{Literal}
use Rattle.lexer_steps.specs.declared.mode.Mode.{Mode}
use Rattle.lexer_steps.specs.declared.mode.Mode.TheVariants.{Text, Words}
use Rattle.lexer_steps.specs.Names.{begins_variable, is_colon, variable_step}
use Rattle.lexer_steps.specs.State.{State, pushed, entered, left, appended, extended, flushed, flushed_word, interpolating}

-- a byte that stands for itself, or the one after a backslash
abbrev pub byte_step : ℕ → ℕ → ℕ → State → Result (State × ℕ) ℕ
byte_step at byte end s = Ok (appended s at byte, end)

-- what an escape stands for
abbrev pub add_escape : Escape → ℕ → State → Result (State × ℕ) ℕ
add_escape e at s = Ok (extended s at (bytes_of e.stands_for), e.end)

abbrev pub escaped : Result Escape Fault → ℕ → State → Result (State × ℕ) ℕ
escaped (Ok e) at s = add_escape e at s
escaped (Err f) at s = Err f.at

-- a backslash and what it begins
unfoldable pub escape_step : List ℕ → ℕ → State → Result (State × ℕ) ℕ
escape_step text at s = escaped (full_escape_at text (at + 1)) at s

abbrev pub open_interpolation : ℕ → State → Result (State × ℕ) ℕ
open_interpolation at s = Ok (interpolating (pushed (flushed s) at kinds.InterpolationBegin contexts.Start), at + 2)

-- #{, and # before a variable, are interpolations
unfoldable pub hash_step : List ℕ → ℕ → State → Result (State × ℕ) ℕ
hash_step text at s =
    let next = slice_index text (at + 1) in
    if next == 123 then open_interpolation at s
    else if begins_variable text (at + 1) then variable_step text (at + 1) (flushed s)
    else byte_step at (slice_index text at) (at + 1) s

-- a byte of a literal with escapes and interpolation that is no delimiter
unfoldable pub double_step : List ℕ → ℕ → State → Result (State × ℕ) ℕ
double_step text at s =
    let b = slice_index text at in
    if b == 92 then escape_step text at s
    else if b == 35 then hash_step text at s
    else byte_step at b (at + 1) s

-- a byte of a literal without interpolation that is no delimiter
unfoldable pub single_step : Delimiters → List ℕ → ℕ → State → Result (State × ℕ) ℕ
single_step d text at s =
    if slice_index text at == 92 then add_escape (plain_escape_at text (at + 1) d) at s
    else byte_step at (slice_index text at) (at + 1) s

-- a byte of a list of words that is no white space and no delimiter
unfoldable pub word_byte_step : Delimiters → List ℕ → ℕ → State → Result (State × ℕ) ℕ
word_byte_step d text at s =
    if slice_index text at == 92 then add_escape (word_escape_at text (at + 1) d) at s
    else byte_step at (slice_index text at) (at + 1) s

abbrev pub end_literal : ℕ → State → Result (State × ℕ) ℕ
end_literal at s = Ok (left (pushed s at kinds.LiteralEnd contexts.Operand), at + 1)

abbrev pub end_key : Option ℕ → List ℕ → ℕ → State → Result (State × ℕ) ℕ
end_key None text at s = end_literal at s
end_key (Some begin) text at s =
    if is_colon text (at + 1) then Ok (
      left (pushed s begin (kinds.Outside outsides.QuotedLabel) contexts.Value),
      at + 2,
    )
    else end_literal at s

-- the end of a string; a colon after it makes it a key
unfoldable pub end_step : Option ℕ → List ℕ → ℕ → State → Result (State × ℕ) ℕ
end_step key text at s = end_key key text at (flushed s)

abbrev pub with_depth : Literal → ℕ → Literal
with_depth d depth = record d { depth = depth }

-- a delimiter that nests
abbrev pub nest_step : Mode → ℕ → ℕ → State → Result (State × ℕ) ℕ
nest_step mode at byte s = byte_step at byte (at + 1) (entered (left s) mode)

abbrev pub deeper : Literal → Result Literal ℕ
deeper d = Ok (with_depth d (d.depth + 1))

-- a step in a string
unfoldable pub text_step : Literal → List ℕ → ℕ → State → Result (State × ℕ) ℕ
text_step d text at s =
    let b = slice_index text at in
    if b == d.delimiters.close then (if d.depth == 0 then end_step d.key text at s else nest_step
    (Text (with_depth d (d.depth - 1))) at b s)
    else if b == d.delimiters.open then nest_step (Text (with_depth d (d.depth + 1))) at b s
    else if d.double then double_step text at s
    else single_step d.delimiters text at s

abbrev pub words_end_step : ℕ → State → Result (State × ℕ) ℕ
words_end_step at s = end_literal at (flushed_word s)

-- a step in a list of words
unfoldable pub words_step : Literal → List ℕ → ℕ → State → Result (State × ℕ) ℕ
words_step d text at s =
    let b = slice_index text at in
    if is_white b then Ok (flushed_word s, at + 1)
    else if b == d.delimiters.close then (if d.depth == 0 then words_end_step at s else nest_step
    (Words (with_depth d (d.depth - 1))) at b s)
    else if b == d.delimiters.open then nest_step (Words (with_depth d (d.depth + 1))) at b s
    else word_byte_step d.delimiters text at s

-- a step in the body of a heredoc
unfoldable pub body_step : Bool → List ℕ → ℕ → State → Result (State × ℕ) ℕ
body_step double text at s = if double then double_step text at s else byte_step at (slice_index text at) (at + 1) s
