-- What is said of a value.
use Rattle.std.specs.Prelude.{ℤ, Bool, true, false}
use Rattle.path_value.specs.declared.value.Value.{Value}
use Rattle.path_value.specs.declared.value.Value.TheVariants.{Nil, True, False, Int}
use Rattle.path_value.specs.declared.failure.CoreClass.{CoreClass}
use Rattle.path_value.specs.declared.failure.CoreClass.TheVariants.{NilClass, TrueClass, FalseClass, Integer}

-- false and nil count as false, every other value as true
abbrev pub is_true : Value → Bool
is_true Nil = false
is_true True = true
is_true False = false
is_true (Int n) = true

abbrev pub truth : Bool → Value
truth true = True
truth false = False

abbrev pub class_of : Value → CoreClass
class_of Nil = NilClass
class_of True = TrueClass
class_of False = FalseClass
class_of (Int n) = Integer
