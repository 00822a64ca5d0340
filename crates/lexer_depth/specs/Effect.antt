-- What a token does to the levels of a text.
use Rattle.std.specs.Prelude.{Bool, true, false, if◌then◌else◌}
use Rattle.rb_syntax.specs.declared.keyword.Keyword.{Keyword}
use Rattle.rb_syntax.specs.declared.keyword.Keyword.TheVariants as keys
use Rattle.rb_syntax.specs.declared.outside.Outside.{Outside}
use Rattle.rb_syntax.specs.declared.outside.Outside.TheVariants as outsides
use Rattle.rb_syntax.specs.declared.punctuator.Punctuator.{Punctuator}
use Rattle.rb_syntax.specs.declared.punctuator.Punctuator.TheVariants as marks
use Rattle.rb_syntax.specs.declared.token.Token.{Token}
use Rattle.rb_syntax.specs.declared.token.TokenKind.{TokenKind}
use Rattle.rb_syntax.specs.declared.token.TokenKind.TheVariants as kinds
use Rattle.lexer_depth.specs.declared.effect.Effect.{Effect}
use Rattle.lexer_depth.specs.declared.effect.Effect.TheVariants.{Nothing, Count, Keep, Comma, Separate, EndLine, When, Do, Open, OpenLoop, OpenIndex, Close}

-- a name counts directly after a name
abbrev pub word_effect : Bool → Effect
word_effect after_word = if after_word then Count else Nothing

-- a modifier stays counted after a comma
abbrev pub modifier_effect : Bool → Effect → Effect
modifier_effect value other = if value then other else Keep

unfoldable pub keyword_effect : Keyword → Bool → Bool → Effect
keyword_effect keys.EncodingName value after_word = Nothing
keyword_effect keys.FileName value after_word = Nothing
keyword_effect keys.LineNumber value after_word = Nothing
keyword_effect keys.BeginBlock value after_word = Nothing
keyword_effect keys.EndBlock value after_word = Nothing
keyword_effect keys.Alias value after_word = Nothing
keyword_effect keys.And value after_word = Keep
keyword_effect keys.Begin value after_word = Open
keyword_effect keys.Break value after_word = word_effect after_word
keyword_effect keys.Case value after_word = Open
keyword_effect keys.Class value after_word = Open
keyword_effect keys.Def value after_word = Open
keyword_effect keys.Defined value after_word = Count
keyword_effect keys.Do value after_word = Do
keyword_effect keys.Else value after_word = Separate
keyword_effect keys.Elsif value after_word = Separate
keyword_effect keys.End value after_word = Close
keyword_effect keys.Ensure value after_word = Separate
keyword_effect keys.False value after_word = Nothing
keyword_effect keys.For value after_word = OpenLoop
keyword_effect keys.If value after_word = modifier_effect value Open
keyword_effect keys.In value after_word = Separate
keyword_effect keys.Module value after_word = Open
keyword_effect keys.Next value after_word = word_effect after_word
keyword_effect keys.Nil value after_word = Nothing
keyword_effect keys.Not value after_word = Count
keyword_effect keys.Or value after_word = Keep
keyword_effect keys.Redo value after_word = Nothing
keyword_effect keys.Rescue value after_word = modifier_effect value Separate
keyword_effect keys.Retry value after_word = Nothing
keyword_effect keys.Return value after_word = word_effect after_word
keyword_effect keys.SelfReference value after_word = Nothing
keyword_effect keys.Super value after_word = word_effect after_word
keyword_effect keys.Then value after_word = Separate
keyword_effect keys.True value after_word = Nothing
keyword_effect keys.Undef value after_word = Nothing
keyword_effect keys.Unless value after_word = modifier_effect value Open
keyword_effect keys.Until value after_word = modifier_effect value OpenLoop
keyword_effect keys.When value after_word = When
keyword_effect keys.While value after_word = modifier_effect value OpenLoop
keyword_effect keys.Yield value after_word = word_effect after_word

-- each operator, dot and :: counts
unfoldable pub mark_effect : Punctuator → Bool → Effect
mark_effect marks.Plus value = Count
mark_effect marks.Minus value = Count
mark_effect marks.Star value = Count
mark_effect marks.Slash value = Count
mark_effect marks.Percent value = Count
mark_effect marks.StarStar value = Count
mark_effect marks.Not value = Count
mark_effect marks.Tilde value = Count
mark_effect marks.Equal value = Count
mark_effect marks.CaseEqual value = Count
mark_effect marks.NotEqual value = Count
mark_effect marks.Match value = Count
mark_effect marks.NotMatch value = Count
mark_effect marks.Less value = Count
mark_effect marks.LessEqual value = Count
mark_effect marks.Greater value = Count
mark_effect marks.GreaterEqual value = Count
mark_effect marks.Compare value = Count
mark_effect marks.ShiftLeft value = Count
mark_effect marks.ShiftRight value = Count
mark_effect marks.Ampersand value = Count
mark_effect marks.Bar value = Count
mark_effect marks.OpenBar value = Nothing
mark_effect marks.CloseBar value = Separate
mark_effect marks.Caret value = Count
mark_effect marks.AndAnd value = Count
mark_effect marks.OrOr value = Count
mark_effect marks.Assign value = Count
mark_effect marks.PlusAssign value = Count
mark_effect marks.MinusAssign value = Count
mark_effect marks.StarAssign value = Count
mark_effect marks.SlashAssign value = Count
mark_effect marks.PercentAssign value = Count
mark_effect marks.StarStarAssign value = Count
mark_effect marks.ShiftLeftAssign value = Count
mark_effect marks.ShiftRightAssign value = Count
mark_effect marks.AmpersandAssign value = Count
mark_effect marks.BarAssign value = Count
mark_effect marks.CaretAssign value = Count
mark_effect marks.AndAndAssign value = Count
mark_effect marks.OrOrAssign value = Count
mark_effect marks.DotDot value = Count
mark_effect marks.DotDotDot value = Count
mark_effect marks.Question value = Count
mark_effect marks.Colon value = Count
mark_effect marks.ColonColon value = Count
mark_effect marks.Arrow value = Nothing
mark_effect marks.LambdaArrow value = Nothing
mark_effect marks.Dot value = Count
mark_effect marks.AmpersandDot value = Count
mark_effect marks.Comma value = Comma
mark_effect marks.OpenParenthesis value = Open
mark_effect marks.CloseParenthesis value = Close
mark_effect marks.OpenBracket value = if value then Open else OpenIndex
mark_effect marks.CloseBracket value = Close
mark_effect marks.OpenBrace value = Open
mark_effect marks.CloseBrace value = Close

-- a name that isn't ASCII is a name, and an ambiguous mark is an operator
unfoldable pub outside_effect : Outside → Bool → Effect
outside_effect outsides.Float after_word = Nothing
outside_effect outsides.Rational after_word = Nothing
outside_effect outsides.Imaginary after_word = Nothing
outside_effect outsides.WideInteger after_word = Nothing
outside_effect outsides.Regexp after_word = Nothing
outside_effect outsides.Backquote after_word = Nothing
outside_effect outsides.PercentLiteral after_word = Nothing
outside_effect outsides.Ambiguous after_word = Count
outside_effect outsides.QuotedLabel after_word = Nothing
outside_effect outsides.NonAsciiName after_word = word_effect after_word
outside_effect outsides.SquigglyHeredoc after_word = Nothing
outside_effect outsides.ClassVariable after_word = Nothing
outside_effect outsides.SpecialGlobal after_word = Nothing
outside_effect outsides.MatchOperator after_word = Nothing
outside_effect outsides.SafeNavigation after_word = Nothing
outside_effect outsides.DoubleSplat after_word = Nothing
outside_effect outsides.Redo after_word = Nothing
outside_effect outsides.FileKeyword after_word = Nothing
outside_effect outsides.LineKeyword after_word = Nothing
outside_effect outsides.EncodingKeyword after_word = Nothing
outside_effect outsides.BeginBlock after_word = Nothing
outside_effect outsides.EndBlock after_word = Nothing
outside_effect outsides.KeywordParameter after_word = Nothing
outside_effect outsides.EndlessMethod after_word = Nothing
outside_effect outsides.GlobalAlias after_word = Nothing
outside_effect outsides.FlipFlop after_word = Nothing
outside_effect outsides.SplatClause after_word = Nothing
outside_effect outsides.PatternMatch after_word = Nothing
outside_effect outsides.Unbuilt after_word = Nothing

unfoldable pub kind_effect : TokenKind → Bool → Bool → Effect
kind_effect kinds.Newline value after_word = EndLine
kind_effect kinds.Semicolon value after_word = EndLine
kind_effect (kinds.Identifier b) value after_word = word_effect after_word
kind_effect (kinds.Constant b) value after_word = word_effect after_word
kind_effect (kinds.MethodName b) value after_word = word_effect after_word
kind_effect (kinds.InstanceVariable b) value after_word = Nothing
kind_effect (kinds.GlobalVariable b) value after_word = Nothing
kind_effect (kinds.Label b) value after_word = Nothing
kind_effect (kinds.Keyword k) value after_word = keyword_effect k value after_word
kind_effect (kinds.Punctuator p) value after_word = mark_effect p value
kind_effect (kinds.Integer n) value after_word = Nothing
kind_effect (kinds.Character n) value after_word = Nothing
kind_effect (kinds.Symbol b) value after_word = Nothing
kind_effect kinds.StringBegin value after_word = Nothing
kind_effect kinds.SymbolBegin value after_word = Nothing
kind_effect kinds.WordsBegin value after_word = Nothing
kind_effect kinds.SymbolsBegin value after_word = Nothing
kind_effect (kinds.Piece b) value after_word = Nothing
kind_effect (kinds.Word b) value after_word = Nothing
kind_effect kinds.InterpolationBegin value after_word = Open
kind_effect kinds.InterpolationEnd value after_word = Close
kind_effect kinds.LiteralEnd value after_word = Nothing
kind_effect (kinds.Outside o) value after_word = outside_effect o after_word

-- what a token does after another one
abbrev pub effect : Token → Bool → Effect
effect t after_word = kind_effect t.kind t.value after_word

unfoldable pub is_word_keyword : Keyword → Bool
is_word_keyword keys.EncodingName = false
is_word_keyword keys.FileName = false
is_word_keyword keys.LineNumber = false
is_word_keyword keys.BeginBlock = false
is_word_keyword keys.EndBlock = false
is_word_keyword keys.Alias = false
is_word_keyword keys.And = false
is_word_keyword keys.Begin = false
is_word_keyword keys.Break = true
is_word_keyword keys.Case = false
is_word_keyword keys.Class = false
is_word_keyword keys.Def = false
is_word_keyword keys.Defined = false
is_word_keyword keys.Do = false
is_word_keyword keys.Else = false
is_word_keyword keys.Elsif = false
is_word_keyword keys.End = false
is_word_keyword keys.Ensure = false
is_word_keyword keys.False = false
is_word_keyword keys.For = false
is_word_keyword keys.If = false
is_word_keyword keys.In = false
is_word_keyword keys.Module = false
is_word_keyword keys.Next = true
is_word_keyword keys.Nil = false
is_word_keyword keys.Not = false
is_word_keyword keys.Or = false
is_word_keyword keys.Redo = false
is_word_keyword keys.Rescue = false
is_word_keyword keys.Retry = false
is_word_keyword keys.Return = true
is_word_keyword keys.SelfReference = false
is_word_keyword keys.Super = true
is_word_keyword keys.Then = false
is_word_keyword keys.True = false
is_word_keyword keys.Undef = false
is_word_keyword keys.Unless = false
is_word_keyword keys.Until = false
is_word_keyword keys.When = false
is_word_keyword keys.While = false
is_word_keyword keys.Yield = true

abbrev pub is_wide_name : Outside → Bool
is_wide_name outsides.Float = false
is_wide_name outsides.Rational = false
is_wide_name outsides.Imaginary = false
is_wide_name outsides.WideInteger = false
is_wide_name outsides.Regexp = false
is_wide_name outsides.Backquote = false
is_wide_name outsides.PercentLiteral = false
is_wide_name outsides.Ambiguous = false
is_wide_name outsides.QuotedLabel = false
is_wide_name outsides.NonAsciiName = true
is_wide_name outsides.SquigglyHeredoc = false
is_wide_name outsides.ClassVariable = false
is_wide_name outsides.SpecialGlobal = false
is_wide_name outsides.MatchOperator = false
is_wide_name outsides.SafeNavigation = false
is_wide_name outsides.DoubleSplat = false
is_wide_name outsides.Redo = false
is_wide_name outsides.FileKeyword = false
is_wide_name outsides.LineKeyword = false
is_wide_name outsides.EncodingKeyword = false
is_wide_name outsides.BeginBlock = false
is_wide_name outsides.EndBlock = false
is_wide_name outsides.KeywordParameter = false
is_wide_name outsides.EndlessMethod = false
is_wide_name outsides.GlobalAlias = false
is_wide_name outsides.FlipFlop = false
is_wide_name outsides.SplatClause = false
is_wide_name outsides.PatternMatch = false
is_wide_name outsides.Unbuilt = false

-- a name directly after a name, return, break, next, yield or super counts
unfoldable pub is_word : TokenKind → Bool
is_word kinds.Newline = false
is_word kinds.Semicolon = false
is_word (kinds.Identifier b) = true
is_word (kinds.Constant b) = true
is_word (kinds.MethodName b) = true
is_word (kinds.InstanceVariable b) = false
is_word (kinds.GlobalVariable b) = false
is_word (kinds.Label b) = false
is_word (kinds.Keyword k) = is_word_keyword k
is_word (kinds.Punctuator p) = false
is_word (kinds.Integer n) = false
is_word (kinds.Character n) = false
is_word (kinds.Symbol b) = false
is_word kinds.StringBegin = false
is_word kinds.SymbolBegin = false
is_word kinds.WordsBegin = false
is_word kinds.SymbolsBegin = false
is_word (kinds.Piece b) = false
is_word (kinds.Word b) = false
is_word kinds.InterpolationBegin = false
is_word kinds.InterpolationEnd = false
is_word kinds.LiteralEnd = false
is_word (kinds.Outside o) = is_wide_name o
