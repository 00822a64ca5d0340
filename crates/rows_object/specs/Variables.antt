-- Methods of Object on instance variables.
use Rattle.std.specs.Prelude.{List, map}
use Rattle.rb_value.specs.declared.value.Value.{Value}
use Rattle.rb_value.specs.declared.value.Value.TheVariants.{Sym}
use Rattle.rb_value.specs.declared.value.SymId.{SymId}
use Rattle.rb_value.specs.declared.variables.Variable.{Variable}
use Rattle.def_calls.specs.Values as values
use Rattle.def_calls.specs.World.{World, Answer, give}
use Rattle.heap.specs.Operands.{own, with_symbol}
use Rattle.rows_object.specs.Follows.{array, named}

-- `instance_variable_get`
abbrev pub get : Value → Value → World → Answer
get v name = named name (λ own_name w. give w (values.instance_variable w (own w.store v) own_name))

-- `instance_variable_set`
abbrev pub set_named : Value → SymId → Value → World → Answer
set_named v name x w = with_symbol name
    (λ u. values.set_instance_variable u (own w.store v) name (own w.store x)) w

abbrev pub set : Value → Value → Value → World → Answer
set v name x = named name (λ own_name. set_named v own_name x)

-- `instance_variables`, in the order in which they were first set
abbrev pub symbol : Variable → Value
symbol x = Sym x.name

abbrev pub names : Value → World → Answer
names v w = array (map symbol (values.variables_of w.store.objects v)) w
