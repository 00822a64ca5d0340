-- Methods that make Enumerators.
use Rattle.std.specs.Prelude.{List, [], ◌∷◌, codes, Option, Some, None}
use Rattle.rb_value.specs.declared.value.Value.{Value}
use Rattle.rb_value.specs.declared.value.Value.TheVariants.{Obj}
use Rattle.rb_value.specs.declared.value.ObjId.{ObjId}
use Rattle.rb_value.specs.declared.value.SymId.{SymId}
use Rattle.rb_value.specs.declared.core_class.CoreClass.TheVariants as class
use Rattle.rb_value.specs.declared.kind.EnumeratorSource.{EnumeratorSource}
use Rattle.rb_value.specs.declared.kind.EnumeratorSource.TheVariants as source
use Rattle.def_core.specs.Store.{core}
use Rattle.def_core.specs.Changes.{Interned, intern}
use Rattle.def_calls.specs.Definitions.{space_in}
use Rattle.def_calls.specs.World.{World, Answer, give_in, with_store}
use Rattle.heap.specs.Made.{enumerator_number, with_enumerator}
use Rattle.heap.specs.Operands.{own}
use Rattle.rows_object.specs.Answered.{holding}
use Rattle.rows_object.specs.Follows.{named, refuse}

-- a new Enumerator of a class with a source
unfoldable pub enumerator : ObjId → EnumeratorSource → World → Answer
enumerator of source w = give_in w (with_enumerator (holding w.store) of source).store
    (Obj (enumerator_number (holding w.store) source))

abbrev pub of_method : Value → SymId → List Value → World → Answer
of_method v name args = enumerator (core class.Enumerator) (source.Call v name args)

-- `to_enum` and `enum_for`: of the method of that name with the other arguments, and of `each` without one
abbrev pub of_each : Value → World → Interned → Answer
of_each v w each = of_method v each.symbol [] (with_store w each.store)

abbrev pub of_default : Value → World → Answer
of_default v w = of_each v w (intern w.store (codes "each"))

abbrev pub of_named : Value → Value → List Value → World → Answer
of_named v name args = named name (λ own_name. of_method v own_name args)

abbrev pub of_call : Value → List Value → World → Answer
of_call v [] = of_default v
of_call v (name ∷ args) = of_named v name args

-- `new` of Enumerator: the source is a block
abbrev pub of_block_in : Value → ObjId → Option ObjId → World → Answer
of_block_in v block None = refuse class.Class v
of_block_in v block (Some c) = enumerator c (source.Block block)

abbrev pub of_block : Value → ObjId → World → Answer
of_block v block w = of_block_in v block (space_in w.store.objects (own w.store v)) w
