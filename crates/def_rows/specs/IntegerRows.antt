-- What the rows of Integer give (ISO/IEC 30170:2012, 15.2.8).
use Rattle.std.specs.Prelude.{ℕ, ℤ, List, [], ◌∷◌, Bool, false, int_lt, int_le, Option, Some, None, Result, Ok, Err}
use Rattle.std.specs.Int.{w64, int_bit_and, int_bit_or, int_bit_xor}
use Rattle.std.specs.Fmt.{signed_decimal}
use Rattle.rb_value.specs.declared.value.Value.{Value}
use Rattle.rb_value.specs.declared.value.Value.TheVariants as value
use Rattle.rb_integer.specs.declared.failure.IntegerFailure.{IntegerFailure}
use Rattle.rb_integer.specs.declared.failure.IntegerFailure.TheVariants as failure
use Rattle.rb_integer.specs.Arithmetic as arithmetic
use Rattle.rb_integer.specs.Bits as bits
use Rattle.rb_integer.specs.Comparison as comparison
use Rattle.rb_integer.specs.Division as division
use Rattle.rb_integer.specs.Numeral as numerals
use Rattle.row_answer.specs.declared.answer.Fault.{Fault}
use Rattle.row_answer.specs.declared.answer.Fault.TheVariants as fault
use Rattle.row_answer.specs.declared.answer.Plain.{Plain}
use Rattle.row_answer.specs.declared.answer.Plain.TheVariants.{Nil, Truth, Int, Receiver, Text, Numbers, Fail}
use Rattle.row_table.specs.declared.integer.IntegerMethod.{IntegerMethod}
use Rattle.row_table.specs.declared.integer.IntegerMethod.TheVariants as method
use Rattle.def_rows.specs.Operands.{argument, integer}

abbrev pub fault_of : IntegerFailure → Fault
fault_of failure.Overflow = fault.IntegerOverflow
fault_of failure.DividedByZero = fault.DividedByZero
fault_of failure.NegativeExponent = fault.NegativeExponent
fault_of failure.NegativeCount = fault.NegativeCount
fault_of failure.BadBase = fault.BadBase
fault_of (failure.OutsideCharacters z) = fault.CharOutOfRange z
fault_of failure.BadEnds = fault.BadRange

abbrev pub number : Result ℤ IntegerFailure → Plain
number (Ok z) = Int z
number (Err f) = Fail (fault_of f)

-- quotient and remainder
abbrev pub pair : Result (ℤ × ℤ) IntegerFailure → Plain
pair (Ok qr) = Numbers (qr.0 ∷ qr.1 ∷ [])
pair (Err f) = Fail (fault_of f)

abbrev pub text : Result (List ℕ) IntegerFailure → Plain
text (Ok bytes) = Text bytes
text (Err f) = Fail (fault_of f)

abbrev pub byte : Result ℕ IntegerFailure → Plain
byte (Ok b) = Text (b ∷ [])
byte (Err f) = Fail (fault_of f)

-- no Integer is equal to what is none, and there is no order between them
abbrev pub equals : ℤ → Value → Bool
equals x value.Nil = false
equals x value.True = false
equals x value.False = false
equals x (value.Int y) = comparison.is_equal x y
equals x (value.Sym s) = false
equals x (value.Obj id) = false

abbrev pub order : ℤ → Value → Plain
order x value.Nil = Nil
order x value.True = Nil
order x value.False = Nil
order x (value.Int y) = Int (comparison.order x y)
order x (value.Sym s) = Nil
order x (value.Obj id) = Nil

-- decimal without an argument, and else in that base
abbrev pub digits : ℤ → List Value → Plain
digits x [] = Text (signed_decimal x)
digits x (base ∷ rest) = text (numerals.text x (integer base))

-- x is the receiver, y and z are the first and the second argument
abbrev pub of_numbers : IntegerMethod → ℤ → ℤ → ℤ → List Value → Plain
of_numbers method.Plus x y z args = number (arithmetic.sum x y)
of_numbers method.Minus x y z args = number (arithmetic.difference x y)
of_numbers method.Times x y z args = number (arithmetic.product x y)
of_numbers method.Divide x y z args = number (division.quotient x y)
of_numbers method.Percent x y z args = number (division.remainder x y)
of_numbers method.Power x y z args = number (arithmetic.power x y)
of_numbers method.Div x y z args = number (division.quotient x y)
of_numbers method.Modulo x y z args = number (division.remainder x y)
of_numbers method.Divmod x y z args = pair (division.quotient_and_remainder x y)
of_numbers method.Negate x y z args = number (arithmetic.negation x)
of_numbers method.Itself x y z args = Receiver
of_numbers method.Complement x y z args = Int (bits.complement x)
of_numbers method.And x y z args = Int (int_bit_and w64 x y)
of_numbers method.Or x y z args = Int (int_bit_or w64 x y)
of_numbers method.Xor x y z args = Int (int_bit_xor w64 x y)
of_numbers method.Left x y z args = number (bits.left x y)
of_numbers method.Right x y z args = number (bits.right x y)
of_numbers method.Equal x y z args = Truth (equals x (argument args 0))
of_numbers method.Order x y z args = order x (argument args 0)
of_numbers method.Less x y z args = Truth (int_lt x y)
of_numbers method.AtMost x y z args = Truth (int_le x y)
of_numbers method.Greater x y z args = Truth (int_lt y x)
of_numbers method.AtLeast x y z args = Truth (int_le y x)
of_numbers method.Absolute x y z args = number (arithmetic.magnitude x)
of_numbers method.Successor x y z args = number (arithmetic.next x)
of_numbers method.Next x y z args = number (arithmetic.next x)
of_numbers method.Predecessor x y z args = number (arithmetic.previous x)
of_numbers method.Character x y z args = byte (numerals.character x)
of_numbers method.Ordinal x y z args = Receiver
of_numbers method.ToInteger x y z args = Receiver
of_numbers method.ToText x y z args = digits x args
of_numbers method.Inspect x y z args = Text (signed_decimal x)
of_numbers method.IsZero x y z args = Truth (comparison.is_zero x)
of_numbers method.IsEven x y z args = Truth (comparison.is_even x)
of_numbers method.IsOdd x y z args = Truth (comparison.is_odd x)
of_numbers method.IsPositive x y z args = Truth (comparison.is_positive x)
of_numbers method.IsNegative x y z args = Truth (comparison.is_negative x)
of_numbers method.IsBetween x y z args = Truth (comparison.is_between x y z)
of_numbers method.Clamp x y z args = Int (comparison.clamped x y z)

abbrev pub gives : IntegerMethod → Value → List Value → Plain
gives m recv args = of_numbers m (integer recv) (integer (argument args 0)) (integer (argument args 1)) args
