-- Tokens that must stand at the front, and those that may.
use Rattle.std.specs.Prelude.{ℕ, zero, suc, Bool, true, false, if◌then◌else◌, List, length, Result, Ok, Err}
use Rattle.rb_syntax.specs.declared.keyword.Keyword.TheVariants as keywords
use Rattle.rb_syntax.specs.declared.punctuator.Punctuator.{Punctuator}
use Rattle.rb_syntax.specs.declared.punctuator.Punctuator.TheVariants as marks
use Rattle.rb_syntax.specs.declared.token.Token.{Token}
use Rattle.parser_tokens.specs.Tokens.{first, behind}
use Rattle.parser_tokens.specs.Starts.{is_newline, is_separator}
use Rattle.parser_tokens.specs.declared.word.Word.{Word}
use Rattle.parser_tokens.specs.declared.word.Word.TheVariants as words
use Rattle.parser_tokens.specs.declared.expect.Wanted.{Wanted}
use Rattle.parser_tokens.specs.declared.expect.Wanted.TheVariants as wanted

abbrev pub Tokens : Type 0
Tokens = List Token

abbrev is_assign : Punctuator → Bool
is_assign marks.Assign = true
is_assign _ = false

abbrev is_dot : Punctuator → Bool
is_dot marks.Dot = true
is_dot _ = false

abbrev is_colon : Punctuator → Bool
is_colon marks.Colon = true
is_colon _ = false

abbrev is_brace : Punctuator → Bool
is_brace marks.OpenBrace = true
is_brace _ = false

abbrev closes_brace : Punctuator → Bool
closes_brace marks.CloseBrace = true
closes_brace _ = false

abbrev closes_parenthesis : Punctuator → Bool
closes_parenthesis marks.CloseParenthesis = true
closes_parenthesis _ = false

abbrev closes_bracket : Punctuator → Bool
closes_bracket marks.CloseBracket = true
closes_bracket _ = false

abbrev closes_bar : Punctuator → Bool
closes_bar marks.CloseBar = true
closes_bar _ = false

abbrev pub is_wanted_mark : Wanted → Punctuator → Bool
is_wanted_mark wanted.Assign p = is_assign p
is_wanted_mark wanted.Dot p = is_dot p
is_wanted_mark wanted.Colon p = is_colon p
is_wanted_mark wanted.OpenBrace p = is_brace p
is_wanted_mark wanted.CloseBrace p = closes_brace p
is_wanted_mark wanted.CloseParenthesis p = closes_parenthesis p
is_wanted_mark wanted.CloseBracket p = closes_bracket p
is_wanted_mark wanted.CloseBar p = closes_bar p
is_wanted_mark wanted.End p = false
is_wanted_mark wanted.In p = false
is_wanted_mark wanted.InterpolationEnd p = false
is_wanted_mark wanted.Separator p = false

abbrev wants_end : Wanted → Bool
wants_end wanted.End = true
wants_end _ = false

abbrev wants_in : Wanted → Bool
wants_in wanted.In = true
wants_in _ = false

abbrev wants_interpolation_end : Wanted → Bool
wants_interpolation_end wanted.InterpolationEnd = true
wants_interpolation_end _ = false

abbrev wants_separator : Wanted → Bool
wants_separator wanted.Separator = true
wants_separator _ = false

abbrev pub is_wanted : Wanted → Word → Bool
is_wanted w (words.Mark p) = is_wanted_mark w p
is_wanted w (words.Key keywords.End) = wants_end w
is_wanted w (words.Key keywords.In) = wants_in w
is_wanted w words.InterpolationEnd = wants_interpolation_end w
is_wanted w words.Newline = wants_separator w
is_wanted w words.Semicolon = wants_separator w
is_wanted w _ = false

-- the tokens behind a word that must be next, or how many are left where it isn't
abbrev pub expect : Wanted → Tokens → Result Tokens ℕ
expect w ts = if is_wanted w (first ts) then Ok (behind ts) else Err (length ts)

-- behind at most n newlines
unfoldable pub newlines_from : ℕ → Tokens → Tokens
newlines_from zero ts = ts
newlines_from (suc n) ts = if is_newline (first ts) then newlines_from n (behind ts) else ts

abbrev pub skip_newlines : Tokens → Tokens
skip_newlines ts = newlines_from (length ts) ts

-- behind at most n newlines and semicolons
unfoldable pub separators_from : ℕ → Tokens → Tokens
separators_from zero ts = ts
separators_from (suc n) ts = if is_separator (first ts) then separators_from n (behind ts) else ts

abbrev pub skip_separators : Tokens → Tokens
skip_separators ts = separators_from (length ts) ts

abbrev pub expect_closing : Wanted → Tokens → Result Tokens ℕ
expect_closing w ts = expect w (skip_newlines ts)

abbrev pub skip_then_word : Word → Tokens → Tokens
skip_then_word (words.Key keywords.Then) ts = behind ts
skip_then_word _ ts = ts

abbrev pub then_at : Word → Tokens → Result Tokens ℕ
then_at words.Newline ts = Ok (skip_then_word (first (behind ts)) (behind ts))
then_at words.Semicolon ts = Ok (skip_then_word (first (behind ts)) (behind ts))
then_at (words.Key keywords.Then) ts = Ok (behind ts)
then_at _ ts = Err (length ts)

abbrev pub do_at : Word → Tokens → Result Tokens ℕ
do_at words.Newline ts = Ok (behind ts)
do_at words.Semicolon ts = Ok (behind ts)
do_at (words.Key keywords.Do) ts = Ok (behind ts)
do_at _ ts = Err (length ts)
