-- The names of the binary operators, and the operator of a name.
use Rattle.std.specs.Prelude.{ℕ, List, Option, Some, None, codes, bytes_eq, if◌then◌else◌}
use Rattle.rb_syntax.specs.declared.operator.Operator.{Operator}
use Rattle.rb_syntax.specs.declared.operator.Operator.TheVariants.{Plus, Minus, Times, Equal, Less, LessEqual, Greater, GreaterEqual}

abbrev pub name_of : Operator → List ℕ
name_of Plus = codes "+"
name_of Minus = codes "-"
name_of Times = codes "*"
name_of Equal = codes "=="
name_of Less = codes "<"
name_of LessEqual = codes "<="
name_of Greater = codes ">"
name_of GreaterEqual = codes ">="

-- the operator of a name, if it is one
unfoldable pub operator_named : List ℕ → Option Operator
operator_named name =
    if bytes_eq name (codes "+") then Some Plus
    else if bytes_eq name (codes "-") then Some Minus
    else if bytes_eq name (codes "*") then Some Times
    else if bytes_eq name (codes "==") then Some Equal
    else if bytes_eq name (codes "<") then Some Less
    else if bytes_eq name (codes "<=") then Some LessEqual
    else if bytes_eq name (codes ">") then Some Greater
    else if bytes_eq name (codes ">=") then Some GreaterEqual
    else None
