use Rattle.std.proofs.Common.{◌≡◌, filter}
use Rattle.std.specs.Prelude.{not}
use Rattle.rb_value.specs.declared.core_class.CoreClass.TheVariants as class
use Rattle.def_core.specs.Store.{core, same_object}
use Rattle.def_calls.specs.World.{World, classes_within}
use Rattle.def_calls.specs.Constants.{first_constant}
use Rattle.run_definitions.specs.Enclosing.{enclosed}
use Rattle.run_definitions.proofs.constants.constant_around.Given as goal

abbrev pub invariant-outward : goal.invariant-outward
invariant-outward l = (w : World) →
    first_constant l.st.store.objects
    (filter (λ c. not (same_object c (core class.Object))) (classes_within l.left (enclosed l.lists w) l.at)) l.name
    ≡ first_constant l.st.store.objects
    (filter (λ c. not (same_object c (core class.Object))) (classes_within l.fn.number
    (enclosed l.lists w) l.fn.number)) l.name

abbrev pub decreases-outward : goal.decreases-outward
decreases-outward l = l.left
