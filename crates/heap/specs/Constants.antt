-- Constants: in what is no class or module none is found, and one that isn't found is told with its scope, unless that
-- is Object.
use Rattle.std.specs.Prelude.{if◌then◌else◌, Option, Some, None}
use Rattle.rb_value.specs.declared.value.Value.{Value}
use Rattle.rb_value.specs.declared.value.ObjId.{ObjId}
use Rattle.rb_value.specs.declared.value.SymId.{SymId}
use Rattle.def_core.specs.declared.cause.Cause.TheVariants as cause
use Rattle.def_calls.specs.World.{World, Answer, give, fail}
use Rattle.def_calls.specs.Constants as constants
use Rattle.heap.specs.Operands.{has_space}
use Rattle.heap.specs.Told.{told}

abbrev pub constant_within : World → ObjId → SymId → Option Value
constant_within w c name = if has_space w.store c then constants.constant_within w c name else None

abbrev pub constant_given : World → Option Value → ObjId → SymId → Answer
constant_given w (Some v) scope name = give w v
constant_given w None scope name = fail w (told w.store (cause.UninitializedConstant (constants.scope_told scope) name))
