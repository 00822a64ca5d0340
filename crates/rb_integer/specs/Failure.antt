-- The class and the message of each failure of Integer and Range.
use Rattle.std.specs.Prelude.{List, ℕ, ◌++◌, codes}
use Rattle.std.specs.Fmt.{signed_decimal}
use Rattle.rb_integer.specs.declared.failure.ExceptionClass.{ExceptionClass}
use Rattle.rb_integer.specs.declared.failure.ExceptionClass.TheVariants.{ArgumentError, RangeError, ZeroDivisionError}
use Rattle.rb_integer.specs.declared.failure.IntegerFailure.{IntegerFailure}
use Rattle.rb_integer.specs.declared.failure.IntegerFailure.TheVariants.{Overflow, DividedByZero, NegativeExponent, NegativeCount, BadBase, OutsideCharacters, BadEnds}

abbrev pub class_of : IntegerFailure → ExceptionClass
class_of Overflow = RangeError
class_of DividedByZero = ZeroDivisionError
class_of NegativeExponent = ArgumentError
class_of NegativeCount = ArgumentError
class_of BadBase = ArgumentError
class_of (OutsideCharacters z) = RangeError
class_of BadEnds = ArgumentError

abbrev pub name_of : ExceptionClass → List ℕ
name_of ArgumentError = codes "ArgumentError"
name_of RangeError = codes "RangeError"
name_of ZeroDivisionError = codes "ZeroDivisionError"

abbrev pub message_of : IntegerFailure → List ℕ
message_of Overflow = codes "integer overflow"
message_of DividedByZero = codes "divided by 0"
message_of NegativeExponent = codes "negative exponent"
message_of NegativeCount = codes "negative count"
message_of BadBase = codes "bad base"
message_of (OutsideCharacters z) = signed_decimal z ++ codes " out of char range"
message_of BadEnds = codes "bad value for range"
