-- The class and the message of each failure of String.
use Rattle.std.specs.Prelude.{List, ℕ, ◌++◌, codes}
use Rattle.std.specs.Fmt.{signed_decimal}
use Rattle.rb_string.specs.declared.failure.ExceptionClass.{ExceptionClass}
use Rattle.rb_string.specs.declared.failure.ExceptionClass.TheVariants.{ArgumentError, IndexError, RangeError}
use Rattle.rb_string.specs.declared.failure.StringFailure.{StringFailure}
use Rattle.rb_string.specs.declared.failure.StringFailure.TheVariants.{TooLong, NegativeCount, OutsideText, BadBase, Overflow}

abbrev pub class_of : StringFailure → ExceptionClass
class_of TooLong = RangeError
class_of NegativeCount = ArgumentError
class_of (OutsideText z) = IndexError
class_of BadBase = ArgumentError
class_of Overflow = RangeError

abbrev pub name_of : ExceptionClass → List ℕ
name_of ArgumentError = codes "ArgumentError"
name_of IndexError = codes "IndexError"
name_of RangeError = codes "RangeError"

abbrev pub message_of : StringFailure → List ℕ
message_of TooLong = codes "string too long"
message_of NegativeCount = codes "negative count"
message_of (OutsideText z) = codes "index " ++ signed_decimal z ++ codes " out of range"
message_of BadBase = codes "bad base"
message_of Overflow = codes "integer overflow"
