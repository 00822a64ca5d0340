-- Names: identifiers, constants, keywords, labels, variables and symbols. Each step gives the state after the
-- token and the place there.
use Rattle.std.specs.Prelude.{ℕ, ◌+◌, ◌-◌, List, drop, take, length, codes, ◌==◌, nat_eq, nat_le, not, Bool, true, false, ◌||◌, ◌&&◌, if◌then◌else◌, Option, Some, None, Result, Ok, Err, slice_index}
use Rattle.std.specs.List.{starts_with}
use Rattle.rb_syntax.specs.declared.keyword.Keyword.{Keyword}
use Rattle.rb_syntax.specs.declared.outside.Outside.TheVariants.{NonAsciiName, ClassVariable, SpecialGlobal}
use Rattle.rb_syntax.specs.declared.token.TokenKind.TheVariants as kinds
use Rattle.lexer_tables.specs.declared.context.Context.TheVariants as contexts
use Rattle.lexer_tables.specs.ByteClass.{is_capital, is_digit, is_name_byte, is_name_start, is_punctuation, is_wide}
use Rattle.lexer_tables.specs.Following.{after_name, after_constant, wants_name, is_def}
use Rattle.lexer_tables.specs.Keyword.{keyword_of}
use Rattle.lexer_tables.specs.Marks.{operator_name}
use Rattle.lexer_steps.specs.Scan.{name_end, wide_end, digit_end, mark_end, def_end, symbol_end}
use Rattle.lexer_steps.specs.State.{State, pushed, with_keyword}
use Rattle.lexer_steps.specs.Trivia.{begins_line}

-- the bytes from one place to another
abbrev pub spelled : List ℕ → ℕ → ℕ → List ℕ
spelled text at end = take (end - at) (drop at text)

abbrev pub is_line_end : List ℕ → ℕ → Bool
is_line_end text at = nat_le (length text) at || (slice_index text at == 10)

-- the line that ends the text is __END__, maybe with a carriage return
abbrev pub is_end_marker : List ℕ → ℕ → Bool
is_end_marker text at =
    begins_line text at && starts_with nat_eq (drop at text) (codes "__END__")
    && (is_line_end text (at + 7) || ((slice_index text (at + 7) == 13) && is_line_end text (at + 8)))

-- a name that is no keyword
unfoldable pub name_of : List ℕ → ℕ → ℕ → Bool → State → Result (State × ℕ) ℕ
name_of text at end is_method s =
    let name = spelled text at end in
    if is_method then Ok (pushed s at (kinds.MethodName name) (after_name s.context), end)
    else if is_capital (slice_index text at) then Ok (pushed s at (kinds.Constant name) (after_constant s.context), end)
    else Ok (pushed s at (kinds.Identifier name) (after_name s.context), end)

abbrev pub is_some : Option Keyword → Bool
is_some (Some k) = true
is_some None = false

-- where keywords are names; with its mark the name ends at marked, and after def a = may follow
unfoldable pub wanted_name : List ℕ → ℕ → ℕ → ℕ → State → Result (State × ℕ) ℕ
wanted_name text at end marked s =
    let last = if is_def s.context then def_end text marked else marked in
    name_of text at last (not (last == end) || is_some (keyword_of (spelled text at last))) s

-- a name with a byte past ASCII at from
abbrev pub wide_name : List ℕ → ℕ → ℕ → State → Result (State × ℕ) ℕ
wide_name text at from s = Ok (
  pushed s at (kinds.Outside NonAsciiName) (after_name s.context),
  wide_end (from + 1) (drop (from + 1) text),
)

abbrev pub label : List ℕ → ℕ → ℕ → State → Result (State × ℕ) ℕ
label text at end s = Ok (pushed s at (kinds.Label (spelled text at end)) contexts.Start, end + 1)

-- a colon, and no other after it
abbrev pub is_colon : List ℕ → ℕ → Bool
is_colon text at = (slice_index text at == 58) && not (slice_index text (at + 1) == 58)

abbrev pub keyword_or_name : Option Keyword → List ℕ → ℕ → ℕ → ℕ → State → Result (State × ℕ) ℕ
keyword_or_name (Some k) text at end marked s = Ok (with_keyword s at k, marked)
keyword_or_name None text at end marked s = name_of text at marked (not (marked == end)) s

-- a name that ends at end and with its mark at marked
abbrev pub marked_word : List ℕ → ℕ → ℕ → ℕ → State → Result (State × ℕ) ℕ
marked_word text at end marked s =
    if is_colon text marked then label text at marked s
    else if wants_name s.context then wanted_name text at end marked s
    else keyword_or_name (keyword_of (spelled text at marked)) text at end marked s

-- a name, keyword, constant or label
unfoldable pub word_step : List ℕ → ℕ → State → Result (State × ℕ) ℕ
word_step text at s =
    let end = name_end (at + 1) (drop (at + 1) text) in
    if is_wide (slice_index text end) then wide_name text at end s
    else marked_word text at end (mark_end text end) s

-- @name or $name
unfoldable pub variable_of : List ℕ → ℕ → State → Result (State × ℕ) ℕ
variable_of text at s =
    let end = name_end (at + 2) (drop (at + 2) text) in
    let name = spelled text at end in
    Ok (
      pushed s at (if slice_index text at == 64 then kinds.InstanceVariable name else kinds.GlobalVariable name)
          contexts.Operand,
      end,
    )

-- @@name
unfoldable pub class_variable : List ℕ → ℕ → State → Result (State × ℕ) ℕ
class_variable text at s =
    if (slice_index text (at + 1) == 64) && is_name_start (slice_index text (at + 2))
    then Ok (pushed s at (kinds.Outside ClassVariable) contexts.Operand, name_end (at + 3) (drop (at + 3) text))
    else Err at

-- $ and digits or one punctuation mark
unfoldable pub special_global : List ℕ → ℕ → State → Result (State × ℕ) ℕ
special_global text at s =
    let next = slice_index text (at + 1) in
    if is_digit next then Ok (
      pushed s at (kinds.Outside SpecialGlobal) contexts.Operand,
      digit_end (at + 2) (drop (at + 2) text),
    )
    else if is_punctuation next then Ok (pushed s at (kinds.Outside SpecialGlobal) contexts.Operand, at + 2)
    else Err at

-- what begins with @ or $
unfoldable pub variable_step : List ℕ → ℕ → State → Result (State × ℕ) ℕ
variable_step text at s =
    if is_name_start (slice_index text (at + 1)) then variable_of text at s
    else if slice_index text at == 64 then class_variable text at s
    else special_global text at s

-- the marks that name special global variables after a $: ~ * $ ? ! @ / \ ; , . = : < > " & ` ' +
abbrev pub names_global : ℕ → Bool
names_global b =
    (b == 126) || (b == 42) || (b == 36) || (b == 63) || (b == 33) || (b == 64) || (b == 47) || (b == 92) || (b == 59)
    || (b == 44) || (b == 46) || (b == 61) || (b == 58) || (b == 60) || (b == 62) || (b == 34) || (b == 38) || (b == 96)
    || (b == 39) || (b == 43)

-- a $ before digits, before such a mark, and before - and what a name goes on with
unfoldable pub begins_special : List ℕ → ℕ → Bool
begins_special text at =
    let next = slice_index text (at + 1) in
    is_digit next || names_global next || ((next == 45) && is_name_byte (slice_index text (at + 2)))

-- in a literal: @name, @@name, $name or a special global variable
unfoldable pub begins_variable : List ℕ → ℕ → Bool
begins_variable text at =
    let first = slice_index text at in
    let next = slice_index text (at + 1) in
    if first == 64 then is_name_start next || ((next == 64) && is_name_start (slice_index text (at + 2)))
    else (first == 36) && (is_name_start next || begins_special text at)

-- where the name of an operator's method ends; the place itself where none begins there
abbrev pub operator_end : List ℕ → ℕ → ℕ
operator_end text at = at + operator_name (slice_index text at) (slice_index text (at + 1)) (slice_index text (at + 2))

-- where the name of a symbol ends; the place itself where none begins there
unfoldable pub symbol_name_end : List ℕ → ℕ → ℕ
symbol_name_end text at =
    let first = slice_index text at in
    if is_name_start first then symbol_end text (name_end (at + 1) (drop (at + 1) text))
    else if ((first == 64) || (first == 36)) && is_name_start (slice_index text (at + 1))
    then name_end (at + 2) (drop (at + 2) text)
    else operator_end text at
