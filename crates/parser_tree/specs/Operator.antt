-- The methods that operators call.
use Rattle.std.specs.Prelude.{ℕ, List, codes}
use Rattle.parser_tree.specs.declared.operator.BinaryOperator.{BinaryOperator}
use Rattle.parser_tree.specs.declared.operator.BinaryOperator.TheVariants as binary
use Rattle.parser_tree.specs.declared.operator.UnaryOperator.{UnaryOperator}
use Rattle.parser_tree.specs.declared.operator.UnaryOperator.TheVariants as unary

abbrev pub binary_name : BinaryOperator → List ℕ
binary_name binary.Power = codes "**"
binary_name binary.Times = codes "*"
binary_name binary.Divide = codes "/"
binary_name binary.Modulo = codes "%"
binary_name binary.Plus = codes "+"
binary_name binary.Minus = codes "-"
binary_name binary.ShiftLeft = codes "<<"
binary_name binary.ShiftRight = codes ">>"
binary_name binary.BitAnd = codes "&"
binary_name binary.BitOr = codes "|"
binary_name binary.BitXor = codes "^"
binary_name binary.Greater = codes ">"
binary_name binary.GreaterEqual = codes ">="
binary_name binary.Less = codes "<"
binary_name binary.LessEqual = codes "<="
binary_name binary.Compare = codes "<=>"
binary_name binary.Equal = codes "=="
binary_name binary.CaseEqual = codes "==="
binary_name binary.NotEqual = codes "!="

abbrev pub unary_name : UnaryOperator → List ℕ
unary_name unary.Plus = codes "+@"
unary_name unary.Minus = codes "-@"
unary_name unary.Complement = codes "~"
