-- What arguments are, or the cause by which they are refused.
use Rattle.std.specs.Prelude.{ℕ, ℤ, pos, negsuc, Result, Ok, Err}
use Rattle.std.specs.Option.{ok_or}
use Rattle.rb_value.specs.declared.value.Value.{Value}
use Rattle.rb_value.specs.declared.value.ObjId.{ObjId}
use Rattle.rb_value.specs.declared.core_class.CoreClass.{CoreClass}
use Rattle.rb_value.specs.declared.core_class.CoreClass.TheVariants as class
use Rattle.def_core.specs.declared.cause.Cause.{Cause}
use Rattle.def_core.specs.declared.cause.Cause.TheVariants as cause
use Rattle.def_core.specs.Store.{Store, core}
use Rattle.def_core.specs.Classes.{plain_class_of}
use Rattle.def_calls.specs.Views as views
use Rattle.heap.specs.Operands.{own}
use Rattle.rows_items.specs.Told.{and_then}

-- a value of a core class was expected
abbrev pub refusal : Store → CoreClass → Value → Cause
refusal st class v = cause.Expected (core class) (plain_class_of st.objects (own st v))

abbrev pub array_of : Store → Value → Result ObjId Cause
array_of st v = ok_or (views.an_array st.objects v) (refusal st class.Array v)

abbrev pub integer_of : Store → Value → Result ℤ Cause
integer_of st v = ok_or (views.integer_in v) (refusal st class.Integer v)

-- a number that isn't below 0
abbrev pub count_in : ℤ → Result ℕ Cause
count_in (pos n) = Ok n
count_in (negsuc n) = Err cause.NegativeCount

abbrev pub count_of : Store → Value → Result ℕ Cause
count_of st v = and_then (integer_of st v) count_in
