-- What methods leave that make an Array, or change nothing.
use Rattle.std.specs.Prelude.{List, Result, Ok}
use Rattle.rb_value.specs.declared.value.Value.{Value}
use Rattle.def_core.specs.declared.cause.Cause.{Cause}
use Rattle.rb_store.specs.Held.{Held}
use Rattle.heap.specs.Made.{array_given, with_array}

-- a value, while nothing changes
abbrev pub given : Held → Value → Result (Value × Held) Cause
given held v = Ok (v, held)

-- a new Array of these elements
abbrev pub made : Held → List Value → Result (Value × Held) Cause
made held vs = Ok (array_given held.store vs, with_array held vs)
