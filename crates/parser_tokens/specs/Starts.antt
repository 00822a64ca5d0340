-- Which words begin or end what.
use Rattle.std.specs.Prelude.{◌+◌, nat_eq, Bool, true, false, not, ◌&&◌, ◌||◌, List, Option, Some, None}
use Rattle.rb_syntax.specs.declared.keyword.Keyword.{Keyword}
use Rattle.rb_syntax.specs.declared.keyword.Keyword.TheVariants as keywords
use Rattle.rb_syntax.specs.declared.outside.Outside.{Outside}
use Rattle.rb_syntax.specs.declared.outside.Outside.TheVariants as outsides
use Rattle.rb_syntax.specs.declared.punctuator.Punctuator.{Punctuator}
use Rattle.rb_syntax.specs.declared.punctuator.Punctuator.TheVariants as marks
use Rattle.rb_syntax.specs.declared.token.Token.{Token}
use Rattle.parser_tokens.specs.Tokens.{first, behind, is_apart, place_at}
use Rattle.parser_tokens.specs.declared.word.Word.{Word}
use Rattle.parser_tokens.specs.declared.word.Word.TheVariants as words
use Rattle.parser_tokens.specs.declared.word.Modifier.{Modifier}
use Rattle.parser_tokens.specs.declared.starts.Jump.{Jump}
use Rattle.parser_tokens.specs.declared.starts.Jump.TheVariants as jumps
use Rattle.parser_tokens.specs.declared.starts.Postfix.{Postfix}
use Rattle.parser_tokens.specs.declared.starts.Postfix.TheVariants as postfixes

abbrev pub keyword_begins_value : Keyword → Bool
keyword_begins_value keywords.EncodingName = true
keyword_begins_value keywords.FileName = true
keyword_begins_value keywords.LineNumber = true
keyword_begins_value keywords.Begin = true
keyword_begins_value keywords.Break = true
keyword_begins_value keywords.Case = true
keyword_begins_value keywords.Class = true
keyword_begins_value keywords.Def = true
keyword_begins_value keywords.Defined = true
keyword_begins_value keywords.False = true
keyword_begins_value keywords.For = true
keyword_begins_value keywords.If = true
keyword_begins_value keywords.Module = true
keyword_begins_value keywords.Next = true
keyword_begins_value keywords.Nil = true
keyword_begins_value keywords.Redo = true
keyword_begins_value keywords.Retry = true
keyword_begins_value keywords.Return = true
keyword_begins_value keywords.SelfReference = true
keyword_begins_value keywords.Super = true
keyword_begins_value keywords.True = true
keyword_begins_value keywords.Unless = true
keyword_begins_value keywords.Until = true
keyword_begins_value keywords.While = true
keyword_begins_value keywords.Yield = true
keyword_begins_value _ = false

abbrev pub mark_begins_value : Punctuator → Bool
mark_begins_value marks.Plus = true
mark_begins_value marks.Minus = true
mark_begins_value marks.Star = true
mark_begins_value marks.StarStar = true
mark_begins_value marks.Not = true
mark_begins_value marks.Tilde = true
mark_begins_value marks.Ampersand = true
mark_begins_value marks.ColonColon = true
mark_begins_value marks.LambdaArrow = true
mark_begins_value marks.OpenParenthesis = true
mark_begins_value marks.OpenBracket = true
mark_begins_value marks.OpenBrace = true
mark_begins_value _ = false

abbrev pub outside_begins_value : Outside → Bool
outside_begins_value outsides.Ambiguous = false
outside_begins_value outsides.QuotedLabel = false
outside_begins_value _ = true

-- a value, or a part of a list
abbrev pub begins_value : Word → Bool
begins_value words.Identifier = true
begins_value words.Constant = true
begins_value words.MethodName = true
begins_value words.InstanceVariable = true
begins_value words.GlobalVariable = true
begins_value words.Label = true
begins_value words.Integer = true
begins_value words.Character = true
begins_value words.Symbol = true
begins_value words.StringBegin = true
begins_value words.SymbolBegin = true
begins_value words.WordsBegin = true
begins_value words.SymbolsBegin = true
begins_value (words.Key k) = keyword_begins_value k
begins_value (words.Mark p) = mark_begins_value p
begins_value (words.Other o) = outside_begins_value o
begins_value _ = false

abbrev pub is_plain_keyword : Keyword → Bool
is_plain_keyword keywords.Nil = true
is_plain_keyword keywords.True = true
is_plain_keyword keywords.False = true
is_plain_keyword keywords.SelfReference = true
is_plain_keyword _ = false

-- a word begins an argument and can't continue an expression; a string does only in quotes
abbrev pub is_plain_word : Word → Bool
is_plain_word words.Identifier = true
is_plain_word words.Constant = true
is_plain_word words.MethodName = true
is_plain_word words.InstanceVariable = true
is_plain_word words.GlobalVariable = true
is_plain_word words.Integer = true
is_plain_word (words.Key k) = is_plain_keyword k
is_plain_word (words.Mark marks.LambdaArrow) = true
is_plain_word _ = false

abbrev pub is_string_begin : Word → Bool
is_string_begin words.StringBegin = true
is_string_begin _ = false

-- the opening of the string at the front is one byte, a quote
abbrev pub is_quoted : List Token → Bool
is_quoted ts = is_string_begin (first ts) && nat_eq (place_at (behind ts)) (place_at ts + 1)

-- the tokens begin with what begins an argument wherever it stands behind a name
unfoldable pub is_plain_start : List Token → Bool
is_plain_start ts = is_plain_word (first ts) || is_quoted ts

-- what begins an argument only where no white space follows it
abbrev pub wants_tight : Word → Bool
wants_tight (words.Mark marks.Plus) = true
wants_tight (words.Mark marks.Minus) = true
wants_tight (words.Mark marks.Star) = true
wants_tight (words.Mark marks.StarStar) = true
wants_tight (words.Mark marks.Ampersand) = true
wants_tight (words.Mark marks.ColonColon) = true
wants_tight _ = false

abbrev pub is_open_brace : Word → Bool
is_open_brace (words.Mark marks.OpenBrace) = true
is_open_brace _ = false

-- the tokens begin an argument behind white space
unfoldable pub is_spaced_start : List Token → Bool
is_spaced_start ts =
    not (is_open_brace (first ts)) && (is_apart ts &&
    (begins_value (first ts) && (not (wants_tight (first ts)) || not (is_apart (behind ts)))))

-- the tokens behind a name begin the arguments of a command
unfoldable pub begins_argument : List Token → Bool
begins_argument ts = is_plain_start ts || is_spaced_start ts

abbrev pub is_open_parenthesis : Word → Bool
is_open_parenthesis (words.Mark marks.OpenParenthesis) = true
is_open_parenthesis _ = false

-- the tokens behind a name begin its arguments in parentheses
unfoldable pub opens_arguments : List Token → Bool
opens_arguments ts = is_open_parenthesis (first ts) && not (is_apart ts)

-- the tokens behind a name make a call of it, even where it is a local variable or a constant: its arguments begin in
-- parentheses, or with what can't continue an expression
unfoldable pub makes_call : List Token → Bool
makes_call ts = opens_arguments ts || is_plain_start ts

abbrev pub ends_statements : Word → Bool
ends_statements words.Finish = true
ends_statements words.InterpolationEnd = true
ends_statements (words.Key keywords.End) = true
ends_statements (words.Key keywords.Else) = true
ends_statements (words.Key keywords.Elsif) = true
ends_statements (words.Key keywords.When) = true
ends_statements (words.Key keywords.In) = true
ends_statements (words.Key keywords.Rescue) = true
ends_statements (words.Key keywords.Ensure) = true
ends_statements (words.Mark marks.CloseParenthesis) = true
ends_statements (words.Mark marks.CloseBrace) = true
ends_statements _ = false

abbrev pub is_separator : Word → Bool
is_separator words.Newline = true
is_separator words.Semicolon = true
is_separator _ = false

abbrev pub is_newline : Word → Bool
is_newline words.Newline = true
is_newline _ = false

abbrev pub ends_statement : Word → Bool
ends_statement w = ends_statements w || is_separator w

abbrev pub modifier_at : Word → Option Modifier
modifier_at (words.Modifier m) = Some m
modifier_at _ = None

abbrev pub jump_at : Word → Option Jump
jump_at (words.Key keywords.Return) = Some jumps.Return
jump_at (words.Key keywords.Break) = Some jumps.Break
jump_at (words.Key keywords.Next) = Some jumps.Next
jump_at _ = None

abbrev pub postfix_at : Word → Option Postfix
postfix_at (words.Mark marks.Dot) = Some postfixes.Dot
postfix_at (words.Mark marks.AmpersandDot) = Some postfixes.Safe
postfix_at (words.Mark marks.ColonColon) = Some postfixes.Scope
postfix_at (words.Mark marks.OpenBracket) = Some postfixes.Index
postfix_at _ = None
