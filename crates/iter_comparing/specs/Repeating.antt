-- `*` of an Array (ISO/IEC 30170:2012, 15.2.12).
use Rattle.std.specs.Prelude.{ℕ, zero, suc, ℤ, pos, negsuc, List, [], ◌++◌, Result, Ok, Err}
use Rattle.rb_value.specs.declared.value.Value.{Value}
use Rattle.rb_value.specs.declared.value.ObjId.{ObjId}
use Rattle.def_core.specs.declared.cause.Cause.{Cause}
use Rattle.def_core.specs.declared.cause.Cause.TheVariants as cause
use Rattle.def_core.specs.Parts.{elements_at}
use Rattle.rb_store.specs.Held.{Held}
use Rattle.heap.specs.Made.{array_given, with_array}
use Rattle.core_calls.specs.Checks.{integer}
use Rattle.def_plans.specs.Plan.{Planned, gives, refuses}
use Rattle.iter_comparing.specs.Stage.{Stage}

-- a list so many times, one after another
abbrev pub repeated : {A : Type 0} → ℕ → List A → List A
repeated zero xs = []
repeated (suc n) xs = repeated n xs ++ xs

-- a new Array
abbrev pub made : Held → List Value → Planned Stage
made held vs = gives (with_array held vs) (array_given held.store vs)

abbrev pub repeat_times : Held → ObjId → ℤ → Planned Stage
repeat_times held array (pos n) = made held (repeated n (elements_at held.store.objects array))
repeat_times held array (negsuc n) = refuses held cause.NegativeCount

abbrev pub repeat_by : Held → ObjId → Result ℤ Cause → Planned Stage
repeat_by held array (Ok z) = repeat_times held array z
repeat_by held array (Err c) = refuses held c

abbrev pub repeat : Held → ObjId → Value → Planned Stage
repeat held array times = repeat_by held array (integer held.store times)
