-- No core method of Integer writes.
use Rattle.std.proofs.Common.{ℤ, ◌+ℤ◌, ◌-ℤ◌, ◌*ℤ◌, Bool, true, false, if◌then◌else◌}
use Rattle.rb_syntax.specs.declared.operator.Operator.{Operator}
use Rattle.rb_syntax.specs.declared.operator.Operator.TheVariants.{Plus, Minus, Times, Equal, Less, LessEqual, Greater, GreaterEqual}
use Rattle.path_value.specs.declared.value.Value.{Value}
use Rattle.path_value.specs.declared.value.Value.TheVariants.{Nil, True, False, Int}
use Rattle.path_value.specs.declared.failure.Failure.TheVariants.{IntegerOverflow}
use Rattle.path_core.specs.Rows.{Outcome, gives, raises, writes, in_range, integer, on_integers, on_other, without_row, call}

abbrev pub IsQuiet : Outcome → Type 0
IsQuiet (gives v) = Unit {0}
IsQuiet (raises f) = Unit {0}
IsQuiet (writes bytes) = ⊥

quiet_either : (b : Bool) (z : ℤ) → IsQuiet (if b then gives (Int z) else raises IntegerOverflow)
quiet_either true z = tt
quiet_either false z = tt

quiet_integer : (z : ℤ) → IsQuiet (integer z)
unfolding integer
quiet_integer z = quiet_either (in_range z) z

quiet_on_integers : (o : Operator) (x y : ℤ) → IsQuiet (on_integers o x y)
quiet_on_integers Plus x y = quiet_integer (x +ℤ y)
quiet_on_integers Minus x y = quiet_integer (x -ℤ y)
quiet_on_integers Times x y = quiet_integer (x *ℤ y)
quiet_on_integers Equal x y = tt
quiet_on_integers Less x y = tt
quiet_on_integers LessEqual x y = tt
quiet_on_integers Greater x y = tt
quiet_on_integers GreaterEqual x y = tt

quiet_on_other : (o : Operator) (v : Value) → IsQuiet (on_other o v)
quiet_on_other Plus v = tt
quiet_on_other Minus v = tt
quiet_on_other Times v = tt
quiet_on_other Equal v = tt
quiet_on_other Less v = tt
quiet_on_other LessEqual v = tt
quiet_on_other Greater v = tt
quiet_on_other GreaterEqual v = tt

quiet_without_row : (o : Operator) (u v : Value) → IsQuiet (without_row o u v)
quiet_without_row Plus u v = tt
quiet_without_row Minus u v = tt
quiet_without_row Times u v = tt
quiet_without_row Equal u v = tt
quiet_without_row Less u v = tt
quiet_without_row LessEqual u v = tt
quiet_without_row Greater u v = tt
quiet_without_row GreaterEqual u v = tt

pub quiet_call : (o : Operator) (u v : Value) → IsQuiet (call o u v)
unfolding call
quiet_call o (Int x) (Int y) = quiet_on_integers o x y
quiet_call o (Int x) Nil = quiet_on_other o Nil
quiet_call o (Int x) True = quiet_on_other o True
quiet_call o (Int x) False = quiet_on_other o False
quiet_call o Nil v = quiet_without_row o Nil v
quiet_call o True v = quiet_without_row o True v
quiet_call o False v = quiet_without_row o False v
