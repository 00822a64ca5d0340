-- The operators between operands with their levels, those before an operand, and those of assignments.
use Rattle.std.specs.Prelude.{ℕ, Bool, true, false, not, ◌&&◌, nat_le, if◌then◌else◌, List, Option, Some, None, is_some}
use Rattle.rb_syntax.specs.declared.keyword.Keyword.TheVariants as keywords
use Rattle.rb_syntax.specs.declared.outside.Outside.TheVariants as outsides
use Rattle.rb_syntax.specs.declared.punctuator.Punctuator.{Punctuator}
use Rattle.rb_syntax.specs.declared.punctuator.Punctuator.TheVariants as marks
use Rattle.rb_syntax.specs.declared.token.Token.{Token}
use Rattle.parser_tree.specs.declared.operator.BinaryOperator.{BinaryOperator}
use Rattle.parser_tree.specs.declared.operator.BinaryOperator.TheVariants as binary
use Rattle.parser_tree.specs.declared.operator.UnaryOperator.TheVariants as unary
use Rattle.parser_tree.specs.declared.operator.AssignmentOperator.TheVariants as assigning
use Rattle.parser_tokens.specs.Tokens.{first, behind, is_apart}
use Rattle.parser_tokens.specs.declared.word.Word.{Word}
use Rattle.parser_tokens.specs.declared.word.Word.TheVariants as words
use Rattle.parser_tokens.specs.declared.operators.Infix.{Infix}
use Rattle.parser_tokens.specs.declared.operators.Infix.TheVariants as infixes
use Rattle.parser_tokens.specs.declared.operators.Prefix.{Prefix}
use Rattle.parser_tokens.specs.declared.operators.Prefix.TheVariants as prefixes
use Rattle.parser_tokens.specs.declared.operators.Assignment.{Assignment}
use Rattle.parser_tokens.specs.declared.operators.Assignment.TheVariants as assignment
use Rattle.parser_tokens.specs.declared.operators.Junction.{Junction}
use Rattle.parser_tokens.specs.declared.operators.Junction.TheVariants as junction

abbrev pub infix_mark : Punctuator → Option Infix
infix_mark marks.StarStar = Some (infixes.Operation binary.Power)
infix_mark marks.Star = Some (infixes.Operation binary.Times)
infix_mark marks.Slash = Some (infixes.Operation binary.Divide)
infix_mark marks.Percent = Some (infixes.Operation binary.Modulo)
infix_mark marks.Plus = Some (infixes.Operation binary.Plus)
infix_mark marks.Minus = Some (infixes.Operation binary.Minus)
infix_mark marks.ShiftLeft = Some (infixes.Operation binary.ShiftLeft)
infix_mark marks.ShiftRight = Some (infixes.Operation binary.ShiftRight)
infix_mark marks.Ampersand = Some (infixes.Operation binary.BitAnd)
infix_mark marks.Bar = Some (infixes.Operation binary.BitOr)
infix_mark marks.Caret = Some (infixes.Operation binary.BitXor)
infix_mark marks.Greater = Some (infixes.Operation binary.Greater)
infix_mark marks.GreaterEqual = Some (infixes.Operation binary.GreaterEqual)
infix_mark marks.Less = Some (infixes.Operation binary.Less)
infix_mark marks.LessEqual = Some (infixes.Operation binary.LessEqual)
infix_mark marks.Compare = Some (infixes.Operation binary.Compare)
infix_mark marks.Equal = Some (infixes.Operation binary.Equal)
infix_mark marks.CaseEqual = Some (infixes.Operation binary.CaseEqual)
infix_mark marks.NotEqual = Some (infixes.Operation binary.NotEqual)
infix_mark marks.Match = Some infixes.Match
infix_mark marks.NotMatch = Some infixes.Match
infix_mark marks.AndAnd = Some infixes.And
infix_mark marks.OrOr = Some infixes.Or
infix_mark marks.DotDot = Some infixes.Range
infix_mark marks.DotDotDot = Some infixes.RangeExclusive
infix_mark _ = None

abbrev pub infix_of : Word → Option Infix
infix_of (words.Mark p) = infix_mark p
infix_of (words.Other outsides.Ambiguous) = Some infixes.Ambiguous
infix_of _ = None

-- how tightly: the lower, the tighter
abbrev pub operation_level : BinaryOperator → ℕ
operation_level binary.Power = 2
operation_level binary.Times = 4
operation_level binary.Divide = 4
operation_level binary.Modulo = 4
operation_level binary.Plus = 5
operation_level binary.Minus = 5
operation_level binary.ShiftLeft = 6
operation_level binary.ShiftRight = 6
operation_level binary.BitAnd = 7
operation_level binary.BitOr = 8
operation_level binary.BitXor = 8
operation_level binary.Greater = 9
operation_level binary.GreaterEqual = 9
operation_level binary.Less = 9
operation_level binary.LessEqual = 9
operation_level binary.Compare = 10
operation_level binary.Equal = 10
operation_level binary.CaseEqual = 10
operation_level binary.NotEqual = 10

abbrev pub level : Infix → ℕ
level (infixes.Operation o) = operation_level o
level infixes.Ambiguous = 4
level infixes.Match = 10
level infixes.And = 11
level infixes.Or = 12
level infixes.Range = 13
level infixes.RangeExclusive = 13

-- the loosest operators in a right operand: one level tighter, but those of a power are powers
abbrev pub operation_right : BinaryOperator → ℕ
operation_right binary.Power = 2
operation_right binary.Times = 3
operation_right binary.Divide = 3
operation_right binary.Modulo = 3
operation_right binary.Plus = 4
operation_right binary.Minus = 4
operation_right binary.ShiftLeft = 5
operation_right binary.ShiftRight = 5
operation_right binary.BitAnd = 6
operation_right binary.BitOr = 7
operation_right binary.BitXor = 7
operation_right binary.Greater = 8
operation_right binary.GreaterEqual = 8
operation_right binary.Less = 8
operation_right binary.LessEqual = 8
operation_right binary.Compare = 9
operation_right binary.Equal = 9
operation_right binary.CaseEqual = 9
operation_right binary.NotEqual = 9

abbrev pub right_level : Infix → ℕ
right_level (infixes.Operation o) = operation_right o
right_level infixes.Ambiguous = 3
right_level infixes.Match = 9
right_level infixes.And = 10
right_level infixes.Or = 11
right_level infixes.Range = 12
right_level infixes.RangeExclusive = 12

abbrev pub is_comparison : BinaryOperator → Bool
is_comparison binary.Compare = true
is_comparison binary.Equal = true
is_comparison binary.CaseEqual = true
is_comparison binary.NotEqual = true
is_comparison _ = false

-- no second operator of its level follows
abbrev pub is_single : Infix → Bool
is_single (infixes.Operation o) = is_comparison o
is_single infixes.Match = true
is_single infixes.Range = true
is_single infixes.RangeExclusive = true
is_single infixes.And = false
is_single infixes.Or = false
is_single infixes.Ambiguous = false

abbrev pub within_level : ℕ → Option Infix → Option Infix
within_level loosest None = None
within_level loosest (Some o) = if nat_le (level o) loosest then Some o else None

unfoldable pub infix_at : ℕ → Word → Option Infix
infix_at loosest w = within_level loosest (infix_of w)

abbrev pub clashes : Infix → Word → Bool
clashes o w = is_single o && is_some (infix_at (level o) w)

abbrev pub is_power : Word → Bool
is_power (words.Mark marks.StarStar) = true
is_power _ = false

abbrev pub is_integer : Word → Bool
is_integer words.Integer = true
is_integer _ = false

-- behind a - that is the sign of an integer: digits directly, and no ** behind them
unfoldable pub is_sign : List Token → Bool
is_sign ts = is_integer (first ts) && (not (is_apart ts) && not (is_power (first (behind ts))))

abbrev pub prefix_of : Word → List Token → Option Prefix
prefix_of (words.Mark marks.Not) ts = Some prefixes.Not
prefix_of (words.Mark marks.Tilde) ts = Some (prefixes.Operation unary.Complement)
prefix_of (words.Mark marks.Plus) ts = Some (prefixes.Operation unary.Plus)
prefix_of (words.Mark marks.Minus) ts = if is_sign ts then None else Some (prefixes.Operation unary.Minus)
prefix_of _ ts = None

unfoldable pub prefix_at : List Token → Option Prefix
prefix_at ts = prefix_of (first ts) (behind ts)

abbrev pub operating : BinaryOperator → Option Assignment
operating o = Some (assignment.Operation (assigning.Operation o))

abbrev pub assignment_mark : Punctuator → Option Assignment
assignment_mark marks.Assign = Some assignment.Plain
assignment_mark marks.AndAndAssign = Some (assignment.Operation assigning.And)
assignment_mark marks.OrOrAssign = Some (assignment.Operation assigning.Or)
assignment_mark marks.PlusAssign = operating binary.Plus
assignment_mark marks.MinusAssign = operating binary.Minus
assignment_mark marks.StarAssign = operating binary.Times
assignment_mark marks.SlashAssign = operating binary.Divide
assignment_mark marks.PercentAssign = operating binary.Modulo
assignment_mark marks.StarStarAssign = operating binary.Power
assignment_mark marks.ShiftLeftAssign = operating binary.ShiftLeft
assignment_mark marks.ShiftRightAssign = operating binary.ShiftRight
assignment_mark marks.AmpersandAssign = operating binary.BitAnd
assignment_mark marks.BarAssign = operating binary.BitOr
assignment_mark marks.CaretAssign = operating binary.BitXor
assignment_mark _ = None

abbrev pub assignment_at : Word → Option Assignment
assignment_at (words.Mark p) = assignment_mark p
assignment_at _ = None

abbrev pub junction_at : Word → Option Junction
junction_at (words.Key keywords.And) = Some junction.And
junction_at (words.Key keywords.Or) = Some junction.Or
junction_at _ = None
