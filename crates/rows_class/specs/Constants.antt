-- Methods on the constants of a class or module.
use Rattle.std.specs.Prelude.{Option, Some, None, is_some}
use Rattle.rb_value.specs.declared.value.Value.{Value}
use Rattle.rb_value.specs.declared.value.ObjId.{ObjId}
use Rattle.rb_value.specs.declared.value.SymId.{SymId}
use Rattle.rb_value.specs.declared.core_class.CoreClass.TheVariants as class
use Rattle.rb_value.specs.Value.{truth}
use Rattle.def_core.specs.Store.{core}
use Rattle.def_calls.specs.Constants as constants
use Rattle.def_calls.specs.World.{World, Answer, give}
use Rattle.heap.specs.Constants.{constant_given, constant_within}
use Rattle.heap.specs.Operands.{own, with_space, with_symbol}

-- that of the class or module and its ancestors, or of Object
abbrev pub or_of_object : World → SymId → Option Value → Option Value
or_of_object w name None = constant_within w (core class.Object) name
or_of_object w name (Some v) = Some v

abbrev pub found : World → ObjId → SymId → Option Value
found w c name = or_of_object w name (constant_within w c name)

-- `const_get`; one that isn't found raises
abbrev pub get : ObjId → SymId → World → Answer
get c name w = constant_given w (found w c name) c name

-- `const_defined?`
abbrev pub has : ObjId → SymId → World → Value
has c name w = truth (is_some (found w c name))

-- `const_set`
abbrev pub set : ObjId → SymId → Value → World → Answer
set c name v w = with_space c (with_symbol name (λ u. constants.set_constant_in u c name (own w.store v))) w
