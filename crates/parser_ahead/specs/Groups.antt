-- What stands behind a group in parentheses, and whether a string is a key.
use Rattle.std.specs.Prelude.{ℕ, ◌+◌, ◌-◌, nat_eq, Bool, true, false, not, ◌&&◌, if◌then◌else◌, List, [], ◌∷◌}
use Rattle.rb_syntax.specs.declared.outside.Outside.TheVariants as outsides
use Rattle.rb_syntax.specs.declared.punctuator.Punctuator.TheVariants as marks
use Rattle.rb_syntax.specs.declared.token.Token.{Token}
use Rattle.parser_tokens.specs.Tokens.{first, word_of}
use Rattle.parser_tokens.specs.declared.word.Word.{Word}
use Rattle.parser_tokens.specs.declared.word.Word.TheVariants as words
use Rattle.parser_ahead.specs.declared.groups.TargetUse.{TargetUse}
use Rattle.parser_ahead.specs.declared.groups.TargetUse.TheVariants as uses

-- how many brackets are open behind a word, so many being open before it
unfoldable pub bracket_step : Word → ℕ → ℕ
bracket_step (words.Mark marks.OpenParenthesis) n = n + 1
bracket_step (words.Mark marks.OpenBracket) n = n + 1
bracket_step (words.Mark marks.OpenBrace) n = n + 1
bracket_step words.InterpolationBegin n = n + 1
bracket_step (words.Mark marks.CloseParenthesis) n = n - 1
bracket_step (words.Mark marks.CloseBracket) n = n - 1
bracket_step (words.Mark marks.CloseBrace) n = n - 1
bracket_step words.InterpolationEnd n = n - 1
bracket_step _ n = n

-- the word behind the token with which no bracket is open any more, so many being open
unfoldable pub behind_brackets : ℕ → List Token → Word
behind_brackets n [] = words.Finish
behind_brackets n (t ∷ ts) = if nat_eq (bracket_step (word_of t) n) 0 then first ts else behind_brackets
    (bracket_step (word_of t) n) ts

abbrev pub word_behind_group : List Token → Word
word_behind_group ts = behind_brackets 0 ts

-- how many literals are open behind a word, so many being open before it
unfoldable pub literal_step : Word → ℕ → ℕ
literal_step words.StringBegin n = n + 1
literal_step words.SymbolBegin n = n + 1
literal_step words.WordsBegin n = n + 1
literal_step words.SymbolsBegin n = n + 1
literal_step words.LiteralEnd n = n - 1
literal_step (words.Other outsides.QuotedLabel) n = n - 1
literal_step _ n = n

-- the word with which no literal is open any more, so many being open
unfoldable pub literal_end : ℕ → List Token → Word
literal_end n [] = words.Finish
literal_end n (t ∷ ts) = if nat_eq (literal_step (word_of t) n) 0 then word_of t else literal_end
    (literal_step (word_of t) n) ts

abbrev pub is_quoted_label : Word → Bool
is_quoted_label (words.Other outsides.QuotedLabel) = true
is_quoted_label _ = false

-- the string at the front is a key
abbrev pub is_quoted_key : List Token → Bool
is_quoted_key ts = is_quoted_label (literal_end 0 ts)

abbrev pub opens_group : Word → Bool
opens_group (words.Mark marks.OpenParenthesis) = true
opens_group _ = false

abbrev pub follows_targets : Word → Bool
follows_targets (words.Mark marks.Comma) = true
follows_targets (words.Mark marks.Assign) = true
follows_targets _ = false

abbrev pub follows_nested : Word → Bool
follows_nested (words.Mark marks.Comma) = true
follows_nested (words.Mark marks.Assign) = true
follows_nested (words.Mark marks.CloseParenthesis) = true
follows_nested _ = false

-- the group at the front of a statement has targets
abbrev pub is_target_group : List Token → Bool
is_target_group ts = opens_group (first ts) && follows_targets (word_behind_group ts)

abbrev pub nested_use : TargetUse → List Token → Bool
nested_use uses.Pattern ts = true
nested_use uses.For ts = false
nested_use uses.Assignment ts = follows_nested (word_behind_group ts)

-- the group at the front of a target has targets itself
abbrev pub is_nested_group : TargetUse → List Token → Bool
is_nested_group u ts = opens_group (first ts) && nested_use u ts

abbrev pub ends_targets : Word → Bool
ends_targets words.Finish = true
ends_targets words.Newline = true
ends_targets words.Semicolon = true
ends_targets (words.Mark marks.Assign) = true
ends_targets (words.Mark marks.Comma) = true
ends_targets (words.Mark marks.CloseParenthesis) = true
ends_targets (words.Mark marks.CloseBar) = true
ends_targets _ = false

abbrev pub begins_pattern : Word → Bool
begins_pattern words.Identifier = true
begins_pattern (words.Other outsides.NonAsciiName) = true
begins_pattern (words.Mark marks.Star) = true
begins_pattern (words.Mark marks.OpenParenthesis) = true
begins_pattern _ = false

-- a word begins a target
abbrev pub begins_target : TargetUse → Word → Bool
begins_target uses.Pattern w = begins_pattern w
begins_target uses.Assignment w = not (ends_targets w)
begins_target uses.For w = not (ends_targets w)
