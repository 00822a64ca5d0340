-- The classes and the messages of what core methods raise.
use Rattle.std.specs.Prelude.{ℕ, List, ◌++◌, codes}
use Rattle.rb_syntax.specs.Operator as operators
use Rattle.path_value.specs.declared.failure.CoreClass.{CoreClass}
use Rattle.path_value.specs.declared.failure.CoreClass.TheVariants.{NilClass, TrueClass, FalseClass, Integer, RangeError, TypeError, NoMethodError}
use Rattle.path_value.specs.declared.failure.Failure.{Failure}
use Rattle.path_value.specs.declared.failure.Failure.TheVariants.{IntegerOverflow, UndefinedMethod, IntegerExpected}

abbrev pub name_of : CoreClass → List ℕ
name_of NilClass = codes "NilClass"
name_of TrueClass = codes "TrueClass"
name_of FalseClass = codes "FalseClass"
name_of Integer = codes "Integer"
name_of RangeError = codes "RangeError"
name_of TypeError = codes "TypeError"
name_of NoMethodError = codes "NoMethodError"

abbrev pub class_of : Failure → CoreClass
class_of IntegerOverflow = RangeError
class_of (UndefinedMethod o c) = NoMethodError
class_of (IntegerExpected c) = TypeError

abbrev pub message_of : Failure → List ℕ
message_of IntegerOverflow = codes "integer overflow"
message_of (UndefinedMethod o c) = codes "undefined method '" ++ operators.name_of o ++ codes "' for " ++ name_of c
message_of (IntegerExpected c) = codes "expected Integer, got " ++ name_of c
