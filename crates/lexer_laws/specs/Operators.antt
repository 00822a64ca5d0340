-- Operators and other marks: how each is spelled.
use Rattle.std.specs.Prelude.{◌≡◌, ℕ, ◌+◌, ◌≤◌, Bool, true, false, List, length, codes}
use Rattle.rb_syntax.specs.declared.punctuator.Punctuator.{Punctuator}
use Rattle.rb_syntax.specs.declared.punctuator.Punctuator.TheVariants as marks
use Rattle.lexer_laws.specs.Longest.{Stands}

unfoldable pub spelling : Punctuator → List ℕ
spelling marks.Plus = codes "+"
spelling marks.Minus = codes "-"
spelling marks.Star = codes "*"
spelling marks.Slash = codes "/"
spelling marks.Percent = codes "%"
spelling marks.StarStar = codes "**"
spelling marks.Not = codes "!"
spelling marks.Tilde = codes "~"
spelling marks.Equal = codes "=="
spelling marks.CaseEqual = codes "==="
spelling marks.NotEqual = codes "!="
spelling marks.Match = codes "=~"
spelling marks.NotMatch = codes "!~"
spelling marks.Less = codes "<"
spelling marks.LessEqual = codes "<="
spelling marks.Greater = codes ">"
spelling marks.GreaterEqual = codes ">="
spelling marks.Compare = codes "<=>"
spelling marks.ShiftLeft = codes "<<"
spelling marks.ShiftRight = codes ">>"
spelling marks.Ampersand = codes "&"
spelling marks.Bar = codes "|"
spelling marks.OpenBar = codes "|"
spelling marks.CloseBar = codes "|"
spelling marks.Caret = codes "^"
spelling marks.AndAnd = codes "&&"
spelling marks.OrOr = codes "||"
spelling marks.Assign = codes "="
spelling marks.PlusAssign = codes "+="
spelling marks.MinusAssign = codes "-="
spelling marks.StarAssign = codes "*="
spelling marks.SlashAssign = codes "/="
spelling marks.PercentAssign = codes "%="
spelling marks.StarStarAssign = codes "**="
spelling marks.ShiftLeftAssign = codes "<<="
spelling marks.ShiftRightAssign = codes ">>="
spelling marks.AmpersandAssign = codes "&="
spelling marks.BarAssign = codes "|="
spelling marks.CaretAssign = codes "^="
spelling marks.AndAndAssign = codes "&&="
spelling marks.OrOrAssign = codes "||="
spelling marks.DotDot = codes ".."
spelling marks.DotDotDot = codes "..."
spelling marks.Question = codes "?"
spelling marks.Colon = codes ":"
spelling marks.ColonColon = codes "::"
spelling marks.Arrow = codes "=>"
spelling marks.LambdaArrow = codes "->"
spelling marks.Dot = codes "."
spelling marks.AmpersandDot = codes "&."
spelling marks.Comma = codes ","
spelling marks.OpenParenthesis = codes "("
spelling marks.CloseParenthesis = codes ")"
spelling marks.OpenBracket = codes "["
spelling marks.CloseBracket = codes "]"
spelling marks.OpenBrace = codes "{"
spelling marks.CloseBrace = codes "}"

-- the bars round the parameters of a block are told from the operator by what stands before them
unfoldable pub is_operator : Punctuator → Bool
is_operator marks.Plus = true
is_operator marks.Minus = true
is_operator marks.Star = true
is_operator marks.Slash = true
is_operator marks.Percent = true
is_operator marks.StarStar = true
is_operator marks.Not = true
is_operator marks.Tilde = true
is_operator marks.Equal = true
is_operator marks.CaseEqual = true
is_operator marks.NotEqual = true
is_operator marks.Match = true
is_operator marks.NotMatch = true
is_operator marks.Less = true
is_operator marks.LessEqual = true
is_operator marks.Greater = true
is_operator marks.GreaterEqual = true
is_operator marks.Compare = true
is_operator marks.ShiftLeft = true
is_operator marks.ShiftRight = true
is_operator marks.Ampersand = true
is_operator marks.Bar = true
is_operator marks.OpenBar = false
is_operator marks.CloseBar = false
is_operator marks.Caret = true
is_operator marks.AndAnd = true
is_operator marks.OrOr = true
is_operator marks.Assign = true
is_operator marks.PlusAssign = true
is_operator marks.MinusAssign = true
is_operator marks.StarAssign = true
is_operator marks.SlashAssign = true
is_operator marks.PercentAssign = true
is_operator marks.StarStarAssign = true
is_operator marks.ShiftLeftAssign = true
is_operator marks.ShiftRightAssign = true
is_operator marks.AmpersandAssign = true
is_operator marks.BarAssign = true
is_operator marks.CaretAssign = true
is_operator marks.AndAndAssign = true
is_operator marks.OrOrAssign = true
is_operator marks.DotDot = true
is_operator marks.DotDotDot = true
is_operator marks.Question = true
is_operator marks.Colon = true
is_operator marks.ColonColon = true
is_operator marks.Arrow = true
is_operator marks.LambdaArrow = true
is_operator marks.Dot = true
is_operator marks.AmpersandDot = true
is_operator marks.Comma = true
is_operator marks.OpenParenthesis = true
is_operator marks.CloseParenthesis = true
is_operator marks.OpenBracket = true
is_operator marks.CloseBracket = true
is_operator marks.OpenBrace = true
is_operator marks.CloseBrace = true

-- an operator stands from a place to its end
pub record IsOperator (mark : Punctuator) (text : List ℕ) (at end : ℕ) : Type 0 where
  pub stands : Stands text at (spelling mark)
  pub ends : end ≡ at + length (spelling mark)
  pub operator : is_operator mark ≡ true

-- the longest that stands at a place
pub record LongestOperator (text : List ℕ) (at : ℕ) (mark : Punctuator) (end : ℕ) : Type 0 where
  pub there : IsOperator mark text at end
  pub longest : (other : ℕ) (q : Punctuator) → IsOperator q text at other → other ≤ end
