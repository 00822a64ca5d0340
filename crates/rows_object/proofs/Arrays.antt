-- What is given of a store that is held.
use Rattle.std.proofs.Common.{◌≡◌, Bool, true, false, List, refl, if◌then◌else◌}
use Rattle.rb_value.specs.declared.value.Value.{Value}
use Rattle.rb_value.specs.declared.value.Value.TheVariants.{Nil, Obj}
use Rattle.rb_value.specs.declared.core_class.CoreClass.TheVariants as class
use Rattle.rb_value.specs.declared.kind.Kind.TheVariants as kind
use Rattle.def_core.specs.Store.{core, next_number}
use Rattle.def_rows.specs.Answers.{items_object}
use Rattle.def_calls.specs.World.{World, give, make, with_store}
use Rattle.rb_store.specs.Held.{Held}
use Rattle.run_values.specs.declared.given.Given.TheVariants.{Gives}
use Rattle.run_values.specs.Answers.{answered}
use Rattle.heap.specs.Made.{array_given, with_array, with_new}
use Rattle.heap.specs.Operands.{has_all}
use Rattle.rows_object.specs.Follows.{array}

pub array_is : (before : Held) (vs : List Value) (w : World) → array vs (with_store w before.store)
    ≡ answered (Gives (array_given before.store vs)) (with_store w (with_array before vs).store)
array_is before vs w = by (has_all before.store vs)
  where
    by : (b : Bool)
        → (if b then make (with_store w before.store) (items_object vs) else give (with_store w before.store) Nil)
        ≡ answered (Gives (if b then Obj (next_number before.store) else Nil))
        (with_store w (if b then with_new before (core class.Array) (kind.Array vs) else before).store)
    by true = refl
    by false = refl
