-- The core methods of Integer and Kernel that have a definition so far
-- (ISO/IEC 30170:2012, 15.2.8 Integer and 15.3.1 Kernel, in a profile of 64-bit whole numbers).
use Rattle.std.specs.Prelude.{ℕ, ◌^◌, ℤ, pos, negsuc, ◌+ℤ◌, ◌-ℤ◌, ◌*ℤ◌, int_lt, int_le, Bool, true, false, not, nat_lt, List, [], ◌∷◌, ◌++◌, codes, if◌then◌else◌, ◌&&◌}
use Rattle.std.specs.Fmt.{signed_decimal}
use Rattle.rb_syntax.specs.declared.operator.Operator.{Operator}
use Rattle.rb_syntax.specs.declared.operator.Operator.TheVariants.{Plus, Minus, Times, Equal, Less, LessEqual, Greater, GreaterEqual}
use Rattle.path_value.specs.Value.{truth, class_of}
use Rattle.path_value.specs.declared.value.Value.{Value}
use Rattle.path_value.specs.declared.value.Value.TheVariants.{Nil, True, False, Int}
use Rattle.path_value.specs.declared.failure.Failure.{Failure}
use Rattle.path_value.specs.declared.failure.Failure.TheVariants.{IntegerOverflow, UndefinedMethod, IntegerExpected}

-- what a core method does: it gives a value, raises, or writes these bytes and gives nil
pub data Outcome : Type 0 where
  gives : Value → Outcome
  raises : Failure → Outcome
  writes : List ℕ → Outcome

abbrev pub in_range : ℤ → Bool
in_range (pos n) = nat_lt n (2 ^ 63)
in_range (negsuc n) = nat_lt n (2 ^ 63)

-- an Integer of 64 bits
unfoldable pub integer : ℤ → Outcome
integer z = if in_range z then gives (Int z) else raises IntegerOverflow

abbrev pub equal_integers : ℤ → ℤ → Bool
equal_integers x y = int_le x y && int_le y x

-- an operator on two Integers
abbrev pub on_integers : Operator → ℤ → ℤ → Outcome
on_integers Plus x y = integer (x +ℤ y)
on_integers Minus x y = integer (x -ℤ y)
on_integers Times x y = integer (x *ℤ y)
on_integers Equal x y = gives (truth (equal_integers x y))
on_integers Less x y = gives (truth (int_lt x y))
on_integers LessEqual x y = gives (truth (int_le x y))
on_integers Greater x y = gives (truth (int_lt y x))
on_integers GreaterEqual x y = gives (truth (int_le y x))

-- whether two values are the same one
abbrev pub is_same : Value → Value → Bool
is_same Nil Nil = true
is_same True True = true
is_same False False = true
is_same (Int x) (Int y) = equal_integers x y
is_same _ _ = false

-- an operator on an Integer and a value that is none: only == has an answer
abbrev pub on_other : Operator → Value → Outcome
on_other Equal v = gives False
on_other o v = raises (IntegerExpected (class_of v))

-- an operator that is sent to a value that is no Integer: == is identity, the others have no method
abbrev pub without_row : Operator → Value → Value → Outcome
without_row Equal u v = gives (truth (is_same u v))
without_row o u v = raises (UndefinedMethod o (class_of u))

-- the call of an operator on a value with another
unfoldable pub call : Operator → Value → Value → Outcome
call o (Int x) (Int y) = on_integers o x y
call o (Int x) Nil = on_other o Nil
call o (Int x) True = on_other o True
call o (Int x) False = on_other o False
call o Nil v = without_row o Nil v
call o True v = without_row o True v
call o False v = without_row o False v

-- what puts writes for a value
abbrev pub text_of : Value → List ℕ
text_of Nil = []
text_of True = codes "true"
text_of False = codes "false"
text_of (Int z) = signed_decimal z

abbrev pub line_of : Value → List ℕ
line_of v = text_of v ++ 10 ∷ []
