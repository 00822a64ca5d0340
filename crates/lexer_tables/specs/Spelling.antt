-- How keywords and marks are spelled.
use Rattle.std.specs.Prelude.{◌≡◌, ◌≤◌, ℕ, List, [], ◌∷◌, length, take, codes, Option, MatchOption}
use Rattle.rb_syntax.specs.declared.keyword.Keyword.{Keyword}
use Rattle.rb_syntax.specs.declared.keyword.Keyword.TheVariants as keys
use Rattle.rb_syntax.specs.declared.punctuator.Punctuator.{Punctuator}
use Rattle.rb_syntax.specs.declared.punctuator.Punctuator.TheVariants as marks
use Rattle.lexer_tables.specs.declared.marks.Mark.{Mark}

abbrev pub keyword_spelling : Keyword → List ℕ
keyword_spelling keys.EncodingName = codes "__ENCODING__"
keyword_spelling keys.FileName = codes "__FILE__"
keyword_spelling keys.LineNumber = codes "__LINE__"
keyword_spelling keys.BeginBlock = codes "BEGIN"
keyword_spelling keys.EndBlock = codes "END"
keyword_spelling keys.Alias = codes "alias"
keyword_spelling keys.And = codes "and"
keyword_spelling keys.Begin = codes "begin"
keyword_spelling keys.Break = codes "break"
keyword_spelling keys.Case = codes "case"
keyword_spelling keys.Class = codes "class"
keyword_spelling keys.Def = codes "def"
keyword_spelling keys.Defined = codes "defined?"
keyword_spelling keys.Do = codes "do"
keyword_spelling keys.Else = codes "else"
keyword_spelling keys.Elsif = codes "elsif"
keyword_spelling keys.End = codes "end"
keyword_spelling keys.Ensure = codes "ensure"
keyword_spelling keys.False = codes "false"
keyword_spelling keys.For = codes "for"
keyword_spelling keys.If = codes "if"
keyword_spelling keys.In = codes "in"
keyword_spelling keys.Module = codes "module"
keyword_spelling keys.Next = codes "next"
keyword_spelling keys.Nil = codes "nil"
keyword_spelling keys.Not = codes "not"
keyword_spelling keys.Or = codes "or"
keyword_spelling keys.Redo = codes "redo"
keyword_spelling keys.Rescue = codes "rescue"
keyword_spelling keys.Retry = codes "retry"
keyword_spelling keys.Return = codes "return"
keyword_spelling keys.SelfReference = codes "self"
keyword_spelling keys.Super = codes "super"
keyword_spelling keys.Then = codes "then"
keyword_spelling keys.True = codes "true"
keyword_spelling keys.Undef = codes "undef"
keyword_spelling keys.Unless = codes "unless"
keyword_spelling keys.Until = codes "until"
keyword_spelling keys.When = codes "when"
keyword_spelling keys.While = codes "while"
keyword_spelling keys.Yield = codes "yield"

abbrev pub mark_spelling : Punctuator → List ℕ
mark_spelling marks.Plus = codes "+"
mark_spelling marks.Minus = codes "-"
mark_spelling marks.Star = codes "*"
mark_spelling marks.Slash = codes "/"
mark_spelling marks.Percent = codes "%"
mark_spelling marks.StarStar = codes "**"
mark_spelling marks.Not = codes "!"
mark_spelling marks.Tilde = codes "~"
mark_spelling marks.Equal = codes "=="
mark_spelling marks.CaseEqual = codes "==="
mark_spelling marks.NotEqual = codes "!="
mark_spelling marks.Match = codes "=~"
mark_spelling marks.NotMatch = codes "!~"
mark_spelling marks.Less = codes "<"
mark_spelling marks.LessEqual = codes "<="
mark_spelling marks.Greater = codes ">"
mark_spelling marks.GreaterEqual = codes ">="
mark_spelling marks.Compare = codes "<=>"
mark_spelling marks.ShiftLeft = codes "<<"
mark_spelling marks.ShiftRight = codes ">>"
mark_spelling marks.Ampersand = codes "&"
mark_spelling marks.Bar = codes "|"
mark_spelling marks.OpenBar = codes "|"
mark_spelling marks.CloseBar = codes "|"
mark_spelling marks.Caret = codes "^"
mark_spelling marks.AndAnd = codes "&&"
mark_spelling marks.OrOr = codes "||"
mark_spelling marks.Assign = codes "="
mark_spelling marks.PlusAssign = codes "+="
mark_spelling marks.MinusAssign = codes "-="
mark_spelling marks.StarAssign = codes "*="
mark_spelling marks.SlashAssign = codes "/="
mark_spelling marks.PercentAssign = codes "%="
mark_spelling marks.StarStarAssign = codes "**="
mark_spelling marks.ShiftLeftAssign = codes "<<="
mark_spelling marks.ShiftRightAssign = codes ">>="
mark_spelling marks.AmpersandAssign = codes "&="
mark_spelling marks.BarAssign = codes "|="
mark_spelling marks.CaretAssign = codes "^="
mark_spelling marks.AndAndAssign = codes "&&="
mark_spelling marks.OrOrAssign = codes "||="
mark_spelling marks.DotDot = codes ".."
mark_spelling marks.DotDotDot = codes "..."
mark_spelling marks.Question = codes "?"
mark_spelling marks.Colon = codes ":"
mark_spelling marks.ColonColon = codes "::"
mark_spelling marks.Arrow = codes "=>"
mark_spelling marks.LambdaArrow = codes "->"
mark_spelling marks.Dot = codes "."
mark_spelling marks.AmpersandDot = codes "&."
mark_spelling marks.Comma = codes ","
mark_spelling marks.OpenParenthesis = codes "("
mark_spelling marks.CloseParenthesis = codes ")"
mark_spelling marks.OpenBracket = codes "["
mark_spelling marks.CloseBracket = codes "]"
mark_spelling marks.OpenBrace = codes "{"
mark_spelling marks.CloseBrace = codes "}"

-- the mark is spelled at the start of these bytes
abbrev pub Begins : Punctuator → ℕ → ℕ → ℕ → Type 0
Begins p first second third = take (length (mark_spelling p)) (first ∷ second ∷ third ∷ []) ≡ mark_spelling p

-- a mark with its length
abbrev pub IsSpelled : ℕ → ℕ → ℕ → Mark → Type 0
IsSpelled first second third m = (m.length ≡ length (mark_spelling m.punctuator))
    × Begins m.punctuator first second third

-- a mark is found, and it is no shorter than that one
abbrev pub Reaches : Punctuator → Option Mark → Type 0
Reaches p found = MatchOption found ⊥ (λ m. length (mark_spelling p) ≤ m.length)
