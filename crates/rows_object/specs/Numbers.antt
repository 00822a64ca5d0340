-- `Integer`: the number that a value is.
use Rattle.std.specs.Prelude.{ℕ, ℤ, pos, List, [], ◌∷◌, length, nat_eq, nat_le, Bool, true, false, not, ◌&&◌, ◌||◌, if◌then◌else◌, Option, Some, None, Result, Ok, Err}
use Rattle.std.specs.List.{list_all}
use Rattle.rb_value.specs.declared.value.Value.{Value}
use Rattle.rb_value.specs.declared.value.Value.TheVariants.{Nil, True, False, Int, Sym, Obj}
use Rattle.rb_value.specs.declared.core_class.CoreClass.TheVariants as class
use Rattle.rb_string.specs.declared.failure.StringFailure.{StringFailure}
use Rattle.rb_string.specs.Numeral as numeral
use Rattle.def_core.specs.declared.cause.Cause.{Cause}
use Rattle.def_core.specs.declared.cause.Cause.TheVariants as cause
use Rattle.def_calls.specs.Views.{kind_in, string_of}
use Rattle.def_calls.specs.World.{World, Answer, give}
use Rattle.rows_object.specs.Follows.{raise, refuse}

abbrev pub is_digit : ℕ → Bool
is_digit b = nat_le 48 b && nat_le b 57

abbrev pub are_digits : List ℕ → Bool
are_digits text = list_all is_digit text

abbrev pub behind_sign : List ℕ → List ℕ
behind_sign [] = []
behind_sign (b ∷ bs) = if nat_eq b 43 || nat_eq b 45 then bs else b ∷ bs

-- a text is a whole number where it is decimal digits, at least one, behind a sign or none
abbrev pub is_whole : List ℕ → Bool
is_whole digits = not (nat_eq (length digits) 0) && are_digits digits

abbrev pub within : Result ℤ StringFailure → Result ℤ Cause
within (Ok z) = Ok z
within (Err f) = Err cause.IntegerOverflow

abbrev pub whole_number : List ℕ → Result ℤ Cause
whole_number text = if is_whole (behind_sign text) then within (numeral.to_integer text (pos 10))
    else Err cause.InvalidInteger

abbrev pub given_number : Result ℤ Cause → World → Answer
given_number (Ok z) w = give w (Int z)
given_number (Err c) w = raise c w

abbrev pub number_of : Value → Option (List ℕ) → World → Answer
number_of v None = refuse class.Integer v
number_of v (Some text) = given_number (whole_number text)

abbrev pub text_number : Value → World → Answer
text_number v w = number_of v (string_of (kind_in w.store.objects v)) w

abbrev pub to_integer : Value → World → Answer
to_integer Nil = text_number Nil
to_integer True = text_number True
to_integer False = text_number False
to_integer (Int z) = λ w. give w (Int z)
to_integer (Sym s) = text_number (Sym s)
to_integer (Obj id) = text_number (Obj id)
