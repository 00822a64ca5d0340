-- One step of reading: outside of literals, and in what the place is inside of.
use Rattle.std.specs.Prelude.{ℕ, ◌==◌, not, true, ◌||◌, ◌&&◌, if◌then◌else◌, List, length, Option, Some, None, Result, Ok, slice_index}
use Rattle.lexer_tables.specs.ByteClass.{is_name_start, is_wide}
use Rattle.lexer_tables.specs.Following.{wants_name}
use Rattle.lexer_steps.specs.declared.mode.Mode.{Mode}
use Rattle.lexer_steps.specs.declared.mode.Mode.TheVariants.{Braces, Interpolation, Text, Words, Body}
use Rattle.lexer_steps.specs.Names.{is_end_marker, name_of, operator_end, variable_step, wide_name, word_step}
use Rattle.lexer_steps.specs.Signs.{sign_step}
use Rattle.lexer_steps.specs.State.{State}
use Rattle.rb_lexer.specs.Strings.{text_step, words_step, body_step}
use Rattle.lexer_steps.specs.Trivia.{is_trivia, trivia_step}

-- the line that ends the text ends it; any other word is a token
abbrev pub word_or_end_step : List ℕ → ℕ → State → Result (State × ℕ) ℕ
word_or_end_step text at s = if is_end_marker text at then Ok (s, length text) else word_step text at s

-- a variable, the name of an operator's method where a name is wanted, or a sign
unfoldable pub other_step : List ℕ → ℕ → State → Result (State × ℕ) ℕ
other_step text at s =
    let first = slice_index text at in
    let end = operator_end text at in
    if (first == 64) || (first == 36) then variable_step text at s
    else if wants_name s.context && not (end == at) then name_of text at end true s
    else sign_step text at s

-- a step outside of literals
unfoldable pub code_step : List ℕ → ℕ → State → Result (State × ℕ) ℕ
code_step text at s =
    let first = slice_index text at in
    if is_trivia text at then trivia_step text at s
    else if is_name_start first then word_or_end_step text at s
    else if is_wide first then wide_name text at at s
    else other_step text at s

-- a step in what the place is inside of
abbrev pub step_in : Option Mode → List ℕ → ℕ → State → Result (State × ℕ) ℕ
step_in (Some (Text d)) text at s = text_step d text at s
step_in (Some (Words d)) text at s = words_step d text at s
step_in (Some (Body double)) text at s = body_step double text at s
step_in (Some Braces) text at s = code_step text at s
step_in (Some Interpolation) text at s = code_step text at s
step_in None text at s = code_step text at s
