-- The tokens that a text reads as.
use Rattle.std.specs.Prelude.{◌≡◌, ℕ, ◌+◌, ◌<◌, ◌⊎◌, Bool, true, false, List, [], ◌∷◌, Some, None, codes, length, slice_index}
use Rattle.rb_syntax.specs.declared.outside.Outside.{Outside}
use Rattle.rb_syntax.specs.declared.outside.Outside.TheVariants as outsides
use Rattle.rb_syntax.specs.declared.punctuator.Punctuator.{Punctuator}
use Rattle.rb_syntax.specs.declared.punctuator.Punctuator.TheVariants as marks
use Rattle.rb_syntax.specs.declared.token.Token.{Token}
use Rattle.rb_syntax.specs.declared.token.TokenKind.{TokenKind}
use Rattle.rb_syntax.specs.declared.token.TokenKind.TheVariants as kinds
use Rattle.lexer_literals.specs.declared.numbers.Tail.TheVariants as tails
use Rattle.lexer_tables.specs.ByteClass.{is_digit, is_punctuation, is_white}
use Rattle.lexer_tables.specs.Following.{can_end, expects_value, expects_value_at, wants_name}
use Rattle.rb_lexer.specs.declared.heads.HeadPlace.{HeadPlace}
use Rattle.lexer_steps.specs.Names.{spelled, is_end_marker}
use Rattle.lexer_laws.specs.Gaps.{IsGap, IsNewline, LeadsDot}
use Rattle.lexer_laws.specs.Closed.{IsBackquote, IsPercentLiteral, IsRegexp}
use Rattle.lexer_laws.specs.Literals.{BeginsGlobal, Literal, Words, Double, IsClosing, IsElement, IsLongPiece, IsPiece, OpensLiteral, piece_kind}
use Rattle.lexer_laws.specs.Longest.{IsLongest, IsRun, Stands}
use Rattle.lexer_laws.specs.Names.{IsName, IsVariable}
use Rattle.lexer_laws.specs.Numbers.{IsNarrowInteger, IsTailed, IsWideInteger}
use Rattle.lexer_laws.specs.Place.{Place, start, after}
use Rattle.lexer_laws.specs.Signs.{IsAmbiguous, IsCharacter, IsMark, IsOperatorName, IsSymbol}
use Rattle.lexer_laws.specs.Within.{AreBraces, BeforeBodies, DropsBefore, InCode, IsBody, IsHeredoc, Nests, Open, Inside, Interpolation, Stretch, Whole, Line, Body, shown}
use Rattle.lexer_laws.specs.Words.{IsColon, IsConstant, IsIdentifier, IsKeyword, IsLabel, IsMethodWord, IsWideName}

-- an operator where a name is wanted is the name of a method
pub record IsMethodOperator (text : List ℕ) (p : Place) (bytes : List ℕ) (end : ℕ) : Type 0 where
  pub wanted : wants_name p.context ≡ true
  pub name : IsLongest (IsOperatorName text p.at) end
  pub bytes_are : bytes ≡ spelled text p.at end

-- @name or $name
pub record IsVariableToken (sigil : ℕ) (text : List ℕ) (at : ℕ) (bytes : List ℕ) (end : ℕ) : Type 0 where
  pub name : IsLongest (IsVariable sigil text at) end
  pub bytes_are : bytes ≡ spelled text at end

-- @@ and a name
pub record IsClassVariable (text : List ℕ) (at end : ℕ) : Type 0 where
  pub first : slice_index text at ≡ 64
  pub second : slice_index text (at + 1) ≡ 64
  pub name : IsLongest (IsName text (at + 2)) end

-- $ and digits, or one punctuation mark
pub record IsSpecialGlobal (text : List ℕ) (at end : ℕ) : Type 0 where
  pub dollar : slice_index text at ≡ 36
  pub rest : ((at + 1 < end) × IsLongest (IsRun is_digit text (at + 1)) end)
      ⊎ ((is_punctuation (slice_index text (at + 1)) ≡ true) × (end ≡ at + 2))

-- The tokens outside the language that stand by themselves. A QuotedLabel ends a string and a SquigglyHeredoc takes
-- its body along; the others are no tokens of a text.
unfoldable pub IsOutside : List ℕ → Place → Outside → ℕ → Type 0
IsOutside text p outsides.Float end = IsTailed tails.Float text p.at end
IsOutside text p outsides.Rational end = IsTailed tails.Rational text p.at end
IsOutside text p outsides.Imaginary end = IsTailed tails.Imaginary text p.at end
IsOutside text p outsides.WideInteger end = IsWideInteger text p.at end
IsOutside text p outsides.Regexp end = IsRegexp text p end
IsOutside text p outsides.Backquote end = IsBackquote text p end
IsOutside text p outsides.PercentLiteral end = IsPercentLiteral text p end
IsOutside text p outsides.Ambiguous end = IsAmbiguous text p × (end ≡ p.at + 1)
IsOutside text p outsides.QuotedLabel end = ⊥
IsOutside text p outsides.NonAsciiName end = IsWideName text p.at end
IsOutside text p outsides.SquigglyHeredoc end = ⊥
IsOutside text p outsides.ClassVariable end = IsClassVariable text p.at end
IsOutside text p outsides.SpecialGlobal end = IsSpecialGlobal text p.at end
IsOutside text p outsides.MatchOperator end = ⊥
IsOutside text p outsides.SafeNavigation end = ⊥
IsOutside text p outsides.DoubleSplat end = ⊥
IsOutside text p outsides.Redo end = ⊥
IsOutside text p outsides.FileKeyword end = ⊥
IsOutside text p outsides.LineKeyword end = ⊥
IsOutside text p outsides.EncodingKeyword end = ⊥
IsOutside text p outsides.BeginBlock end = ⊥
IsOutside text p outsides.EndBlock end = ⊥
IsOutside text p outsides.KeywordParameter end = ⊥
IsOutside text p outsides.EndlessMethod end = ⊥
IsOutside text p outsides.GlobalAlias end = ⊥
IsOutside text p outsides.FlipFlop end = ⊥
IsOutside text p outsides.SplatClause end = ⊥
IsOutside text p outsides.PatternMatch end = ⊥
IsOutside text p outsides.Unbuilt end = ⊥

-- A token of a kind stands from a place to its end. The openings, insides and ends of literals are told by what is
-- open: `ReadsFrom` reads them.
unfoldable pub IsToken : List ℕ → Place → TokenKind → ℕ → Type 0
IsToken text p kinds.Newline end = IsNewline text p end
IsToken text p kinds.Semicolon end = (slice_index text p.at ≡ 59) × (end ≡ p.at + 1)
IsToken text p (kinds.Identifier bytes) end = IsIdentifier text p.at p.context bytes end
IsToken text p (kinds.Constant bytes) end = IsConstant text p.at p.context bytes end
IsToken text p (kinds.MethodName bytes) end = IsMethodWord text p.at p.context bytes end
    ⊎ IsMethodOperator text p bytes end
IsToken text p (kinds.InstanceVariable bytes) end = IsVariableToken 64 text p.at bytes end
IsToken text p (kinds.GlobalVariable bytes) end = IsVariableToken 36 text p.at bytes end
IsToken text p (kinds.Label bytes) end = IsLabel text p.at bytes end
IsToken text p (kinds.Keyword k) end = IsKeyword text p.at p.context k end
IsToken text p (kinds.Punctuator m) end = IsMark text p m end
IsToken text p (kinds.Integer n) end = IsNarrowInteger text p.at end n
IsToken text p (kinds.Character b) end = IsCharacter text p b end
IsToken text p (kinds.Symbol bytes) end = IsSymbol text p bytes end
IsToken text p kinds.StringBegin end = ⊥
IsToken text p kinds.SymbolBegin end = ⊥
IsToken text p kinds.WordsBegin end = ⊥
IsToken text p kinds.SymbolsBegin end = ⊥
IsToken text p (kinds.Piece bytes) end = ⊥
IsToken text p (kinds.Word bytes) end = ⊥
IsToken text p kinds.InterpolationBegin end = ⊥
IsToken text p kinds.InterpolationEnd end = ⊥
IsToken text p kinds.LiteralEnd end = ⊥
IsToken text p (kinds.Outside o) end = IsOutside text p o end

-- whether a value is expected at a token
unfoldable pub value_at : Place → TokenKind → Bool
value_at p kinds.Newline = expects_value p.context
value_at p kinds.Semicolon = expects_value p.context
value_at p (kinds.Identifier bytes) = expects_value p.context
value_at p (kinds.Constant bytes) = expects_value p.context
value_at p (kinds.MethodName bytes) = expects_value p.context
value_at p (kinds.InstanceVariable bytes) = expects_value p.context
value_at p (kinds.GlobalVariable bytes) = expects_value p.context
value_at p (kinds.Label bytes) = expects_value p.context
value_at p (kinds.Keyword k) = expects_value_at p.context k
value_at p (kinds.Punctuator m) = expects_value p.context
value_at p (kinds.Integer n) = expects_value p.context
value_at p (kinds.Character b) = expects_value p.context
value_at p (kinds.Symbol bytes) = expects_value p.context
value_at p kinds.StringBegin = expects_value p.context
value_at p kinds.SymbolBegin = expects_value p.context
value_at p kinds.WordsBegin = expects_value p.context
value_at p kinds.SymbolsBegin = expects_value p.context
value_at p (kinds.Piece bytes) = expects_value p.context
value_at p (kinds.Word bytes) = expects_value p.context
value_at p kinds.InterpolationBegin = expects_value p.context
value_at p kinds.InterpolationEnd = expects_value p.context
value_at p kinds.LiteralEnd = expects_value p.context
value_at p (kinds.Outside o) = expects_value p.context

unfoldable pub is_newline : TokenKind → Bool
is_newline kinds.Newline = true
is_newline kinds.Semicolon = false
is_newline (kinds.Identifier bytes) = false
is_newline (kinds.Constant bytes) = false
is_newline (kinds.MethodName bytes) = false
is_newline (kinds.InstanceVariable bytes) = false
is_newline (kinds.GlobalVariable bytes) = false
is_newline (kinds.Label bytes) = false
is_newline (kinds.Keyword k) = false
is_newline (kinds.Punctuator m) = false
is_newline (kinds.Integer n) = false
is_newline (kinds.Character b) = false
is_newline (kinds.Symbol bytes) = false
is_newline kinds.StringBegin = false
is_newline kinds.SymbolBegin = false
is_newline kinds.WordsBegin = false
is_newline kinds.SymbolsBegin = false
is_newline (kinds.Piece bytes) = false
is_newline (kinds.Word bytes) = false
is_newline kinds.InterpolationBegin = false
is_newline kinds.InterpolationEnd = false
is_newline kinds.LiteralEnd = false
is_newline (kinds.Outside o) = false

-- whether the parameters of a block are open after a mark
unfoldable pub bars_behind : Bool → Punctuator → Bool
bars_behind bars marks.Plus = bars
bars_behind bars marks.Minus = bars
bars_behind bars marks.Star = bars
bars_behind bars marks.Slash = bars
bars_behind bars marks.Percent = bars
bars_behind bars marks.StarStar = bars
bars_behind bars marks.Not = bars
bars_behind bars marks.Tilde = bars
bars_behind bars marks.Equal = bars
bars_behind bars marks.CaseEqual = bars
bars_behind bars marks.NotEqual = bars
bars_behind bars marks.Match = bars
bars_behind bars marks.NotMatch = bars
bars_behind bars marks.Less = bars
bars_behind bars marks.LessEqual = bars
bars_behind bars marks.Greater = bars
bars_behind bars marks.GreaterEqual = bars
bars_behind bars marks.Compare = bars
bars_behind bars marks.ShiftLeft = bars
bars_behind bars marks.ShiftRight = bars
bars_behind bars marks.Ampersand = bars
bars_behind bars marks.Bar = bars
bars_behind bars marks.OpenBar = true
bars_behind bars marks.CloseBar = false
bars_behind bars marks.Caret = bars
bars_behind bars marks.AndAnd = bars
bars_behind bars marks.OrOr = bars
bars_behind bars marks.Assign = bars
bars_behind bars marks.PlusAssign = bars
bars_behind bars marks.MinusAssign = bars
bars_behind bars marks.StarAssign = bars
bars_behind bars marks.SlashAssign = bars
bars_behind bars marks.PercentAssign = bars
bars_behind bars marks.StarStarAssign = bars
bars_behind bars marks.ShiftLeftAssign = bars
bars_behind bars marks.ShiftRightAssign = bars
bars_behind bars marks.AmpersandAssign = bars
bars_behind bars marks.BarAssign = bars
bars_behind bars marks.CaretAssign = bars
bars_behind bars marks.AndAndAssign = bars
bars_behind bars marks.OrOrAssign = bars
bars_behind bars marks.DotDot = bars
bars_behind bars marks.DotDotDot = bars
bars_behind bars marks.Question = bars
bars_behind bars marks.Colon = bars
bars_behind bars marks.ColonColon = bars
bars_behind bars marks.Arrow = bars
bars_behind bars marks.LambdaArrow = bars
bars_behind bars marks.Dot = bars
bars_behind bars marks.AmpersandDot = bars
bars_behind bars marks.Comma = bars
bars_behind bars marks.OpenParenthesis = bars
bars_behind bars marks.CloseParenthesis = bars
bars_behind bars marks.OpenBracket = bars
bars_behind bars marks.CloseBracket = bars
bars_behind bars marks.OpenBrace = bars
bars_behind bars marks.CloseBrace = bars

unfoldable pub bars_after : Bool → TokenKind → Bool
bars_after bars kinds.Newline = bars
bars_after bars kinds.Semicolon = bars
bars_after bars (kinds.Identifier bytes) = bars
bars_after bars (kinds.Constant bytes) = bars
bars_after bars (kinds.MethodName bytes) = bars
bars_after bars (kinds.InstanceVariable bytes) = bars
bars_after bars (kinds.GlobalVariable bytes) = bars
bars_after bars (kinds.Label bytes) = bars
bars_after bars (kinds.Keyword k) = bars
bars_after bars (kinds.Punctuator m) = bars_behind bars m
bars_after bars (kinds.Integer n) = bars
bars_after bars (kinds.Character b) = bars
bars_after bars (kinds.Symbol bytes) = bars
bars_after bars kinds.StringBegin = bars
bars_after bars kinds.SymbolBegin = bars
bars_after bars kinds.WordsBegin = bars
bars_after bars kinds.SymbolsBegin = bars
bars_after bars (kinds.Piece bytes) = bars
bars_after bars (kinds.Word bytes) = bars
bars_after bars kinds.InterpolationBegin = bars
bars_after bars kinds.InterpolationEnd = bars
bars_after bars kinds.LiteralEnd = bars
bars_after bars (kinds.Outside o) = bars

-- after a token that ends at a place
abbrev pub behind : Place → TokenKind → ℕ → Place
behind p kind end = record {
  at = end;
  context = after p.context kind;
  space = is_newline kind;
  line_start = is_newline kind;
  bars = bars_after p.bars kind;
}

-- a token with what is so of its place
abbrev pub token_at : Place → TokenKind → Token
token_at p kind = record { kind = kind; at = p.at; space = p.space; line_start = p.line_start; value = value_at p kind }

-- the text ends, or a line __END__ ends it
abbrev pub IsEnd : List ℕ → Place → Type 0
IsEnd text p = (p.at ≡ length text) ⊎ ((p.at < length text) × (is_end_marker text p.at ≡ true))

-- the same at another place
abbrev pub moved : Place → ℕ → Place
moved p at = record p { at = at }

-- a variable after the # of an interpolation, maybe one outside the language
abbrev pub IsInterpolated : List ℕ → ℕ → TokenKind → ℕ → Type 0
IsInterpolated text at kind end =
    (bytes : List ℕ)
    × (((kind ≡ kinds.InstanceVariable bytes) × IsVariableToken 64 text at bytes end)
    ⊎ (((kind ≡ kinds.GlobalVariable bytes) × IsVariableToken 36 text at bytes end)
    ⊎ (((kind ≡ kinds.Outside outsides.ClassVariable) × IsClassVariable text at end)
    ⊎ ((kind ≡ kinds.Outside outsides.SpecialGlobal) × IsSpecialGlobal text at end × BeginsGlobal text at))))

-- a colon after the end of a string makes it a key
abbrev pub EndsKey : List ℕ → Literal → ℕ → ℕ → Type 0
EndsKey text l begin at = (l.key ≡ Some begin) × IsColon text (at + 1)

-- A text from a place on, in a stretch of it and with what is open there, reads as these tokens.
pub data ReadsFrom (text : List ℕ) : Stretch → List Open → Place → List Token → Type 0 where
  -- nothing but braces is open where the text ends
  Ends : (around : List Open) (p : Place) → AreBraces around → IsEnd text p → ReadsFrom text Whole around p []
  -- between tokens
  Passes : (s : Stretch) (around : List Open) (p q : Place) (tokens : List Token) → InCode around
      → (BeforeBodies s p.at → ⊥) → IsGap (shown text s) p q → ReadsFrom text s around q tokens
      → ReadsFrom text s around p tokens
  -- a token that is no part of a literal; the line that ends the text is no word
  Takes : (s : Stretch) (around next_open : List Open) (p : Place) (kind : TokenKind) (end : ℕ) (tokens : List Token)
      → InCode around → (BeforeBodies s p.at → ⊥) → (IsEnd (shown text s) p → ⊥) → IsToken (shown text s) p kind end
      → Nests around kind next_open → ReadsFrom text s next_open (behind p kind end) tokens
      → ReadsFrom text s around p (token_at p kind ∷ tokens)
  -- the opening of a literal
  OpensIt : (s : Stretch) (around : List Open) (p : Place) (kind : TokenKind) (l : Literal) (end : ℕ)
      (tokens : List Token) → InCode around → OpensLiteral (shown text s) p kind l end
      → ReadsFrom text s (Inside l 0 ∷ around) (behind p kind end) tokens
      → ReadsFrom text s around p (token_at p kind ∷ tokens)
  -- bytes of a literal
  Holds : (s : Stretch) (around : List Open) (p : Place) (l : Literal) (depth last end : ℕ) (bytes : List ℕ)
      (tokens : List Token) → IsPiece l (shown text s) depth p.at bytes last end
      → ReadsFrom text s (Inside l last ∷ around) (behind p (piece_kind l.contents bytes) end) tokens
      → ReadsFrom text s (Inside l depth ∷ around) p (token_at p (piece_kind l.contents bytes) ∷ tokens)
  -- or of one that goes over the end of a line with heads of heredocs
  HoldsOver : (around : List Open) (p : Place) (l : Literal) (stop next depth last end : ℕ) (bytes : List ℕ)
      (tokens : List Token) → IsLongPiece l text stop next depth p.at bytes last end
      → ReadsFrom text Whole (Inside l last ∷ around) (behind p (piece_kind l.contents bytes) end) tokens
      → ReadsFrom text (Line stop next) (Inside l depth ∷ around) p (token_at p (piece_kind l.contents bytes) ∷ tokens)
  -- an escape that stands for nothing, where no piece has begun
  Skips : (s : Stretch) (around : List Open) (p : Place) (l : Literal) (depth end : ℕ) (tokens : List Token)
      → IsElement l (shown text s) p.at [] end → ReadsFrom text s (Inside l depth ∷ around) (moved p end) tokens
      → ReadsFrom text s (Inside l depth ∷ around) p tokens
  -- white space between words
  Separates : (s : Stretch) (around : List Open) (p : Place) (l : Literal) (depth : ℕ) (tokens : List Token)
      → l.contents ≡ Words → is_white (slice_index (shown text s) p.at) ≡ true
      → ReadsFrom text s (Inside l depth ∷ around) (moved p (p.at + 1)) tokens
      → ReadsFrom text s (Inside l depth ∷ around) p tokens
  -- #{
  Interpolates : (s : Stretch) (around : List Open) (p : Place) (l : Literal) (depth : ℕ) (tokens : List Token)
      → l.contents ≡ Double → Stands (shown text s) p.at (codes "#{")
      → ReadsFrom text s (Interpolation ∷ Inside l depth ∷ around) (behind p kinds.InterpolationBegin (p.at + 2)) tokens
      → ReadsFrom text s (Inside l depth ∷ around) p (token_at p kinds.InterpolationBegin ∷ tokens)
  -- the } of #{
  Closes : (s : Stretch) (around : List Open) (p : Place) (tokens : List Token) → slice_index (shown text s) p.at ≡ 125
      → ReadsFrom text s around (behind p kinds.InterpolationEnd (p.at + 1)) tokens
      → ReadsFrom text s (Interpolation ∷ around) p (token_at p kinds.InterpolationEnd ∷ tokens)
  -- # and a variable
  Inserts : (s : Stretch) (around : List Open) (p : Place) (l : Literal) (depth : ℕ) (kind : TokenKind) (end : ℕ)
      (tokens : List Token) → l.contents ≡ Double → slice_index (shown text s) p.at ≡ 35
      → IsInterpolated (shown text s) (p.at + 1) kind end → ReadsFrom text s (Inside l depth ∷ around)
      (behind p kind end) tokens → ReadsFrom text s (Inside l depth ∷ around) p
      (token_at (moved p (p.at + 1)) kind ∷ tokens)
  -- the end of a literal
  EndsIt : (s : Stretch) (around : List Open) (p : Place) (l : Literal) (depth : ℕ) (tokens : List Token)
      → IsClosing l (shown text s) depth p.at → ((begin : ℕ) → EndsKey (shown text s) l begin p.at → ⊥)
      → ReadsFrom text s around (behind p kinds.LiteralEnd (p.at + 1)) tokens
      → ReadsFrom text s (Inside l depth ∷ around) p (token_at p kinds.LiteralEnd ∷ tokens)
  -- the end of a string that is a key has the place of its opening, and takes the colon
  EndsLabel : (s : Stretch) (around : List Open) (p : Place) (l : Literal) (depth begin : ℕ) (tokens : List Token)
      → IsClosing l (shown text s) depth p.at → EndsKey (shown text s) l begin p.at
      → ReadsFrom text s around (behind p (kinds.Outside outsides.QuotedLabel) (p.at + 2)) tokens
      → ReadsFrom text s (Inside l depth ∷ around) p (token_at (moved p begin)
      (kinds.Outside outsides.QuotedLabel) ∷ tokens)
  -- the head of a heredoc, after which its body is read
  Heredoc : (s : Stretch) (around : List Open) (p : Place) (h : HeadPlace) (l : Literal) (from stop line next : ℕ)
      (tokens : List Token) → InCode around → IsHeredoc text s around p h from stop line next → (h.dash ≡ 126 → ⊥)
      → IsBody h l → ReadsFrom text (Body stop h.end line next) (Inside l 0 ∷ around) (behind p kinds.StringBegin from)
      tokens → ReadsFrom text s around p (token_at p kinds.StringBegin ∷ tokens)
  -- the end of the body, after which the rest of the head's line is read
  EndsBody : (around : List Open) (p : Place) (l : Literal) (depth stop back line next : ℕ) (tokens : List Token)
      → l.delimiters ≡ None → p.at ≡ stop → ReadsFrom text (Line line next) around (behind p kinds.LiteralEnd back)
      tokens → ReadsFrom text (Body stop back line next) (Inside l depth ∷ around) p
      (token_at p kinds.LiteralEnd ∷ tokens)
  -- <<~ and its identifier, whose body is left out
  Squiggly : (s : Stretch) (around : List Open) (p : Place) (h : HeadPlace) (from stop line next : ℕ)
      (tokens : List Token) → InCode around → IsHeredoc text s around p h from stop line next → h.dash ≡ 126
      → ReadsFrom text (Line line next) around (behind p (kinds.Outside outsides.SquigglyHeredoc) h.end) tokens
      → ReadsFrom text s around p (token_at p (kinds.Outside outsides.SquigglyHeredoc) ∷ tokens)
  -- the newline of a line with heads, after which the bodies stand, is dropped
  PassesBodies : (around : List Open) (p q : Place) (stop next : ℕ) (tokens : List Token) → InCode around
      → p.at + 1 ≡ stop → DropsBefore text p next q → ReadsFrom text Whole around q tokens
      → ReadsFrom text (Line stop next) around p tokens
  -- or a token
  TakesNewline : (around : List Open) (p : Place) (stop next : ℕ) (tokens : List Token) → InCode around
      → p.at + 1 ≡ stop → can_end p.context ≡ true → ((dot : ℕ) → LeadsDot text next dot → ⊥)
      → ReadsFrom text Whole around (behind p kinds.Newline next) tokens
      → ReadsFrom text (Line stop next) around p (token_at p kinds.Newline ∷ tokens)
  -- what was passed over or taken with that newline leads after the bodies
  EndsLine : (around : List Open) (p : Place) (stop next : ℕ) (tokens : List Token) → p.at ≡ stop
      → ReadsFrom text Whole around (moved p next) tokens → ReadsFrom text (Line stop next) around p tokens

abbrev pub Reads : List ℕ → List Token → Type 0
Reads text tokens = ReadsFrom text Whole [] start tokens
