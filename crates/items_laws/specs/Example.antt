-- `map` over an Array of one element, to which the block answers another value.
use Rattle.std.specs.Prelude.{[], ◌∷◌, Some, None}
use Rattle.rb_value.specs.declared.value.Value.{Value}
use Rattle.rb_value.specs.declared.value.ObjId.{ObjId}
use Rattle.rb_store.specs.Held.{Held}
use Rattle.def_plans.specs.Plan.{Planned, calls}
use Rattle.iter_items.specs.declared.row.Task.TheVariants as task
use Rattle.iter_items.specs.declared.source.Source.TheVariants as source
use Rattle.iter_items.specs.declared.visit.Visit.{Visit}
use Rattle.iter_items.specs.Asking.{begun}
use Rattle.iter_items.specs.Moved.{as_moved}
use Rattle.iter_items.specs.Stage as over_items
use Rattle.core_iter.specs.Stage.{items}
use Rattle.items_laws.specs.Run.{Turn}

-- the visit at the element
abbrev pub at_element : Value → ObjId → ObjId → Value → Visit
at_element recv a b x = record (begun task.Map recv (source.Elements a 0) (Some b)) {
  source = source.Elements a 1;
  item = x;
}

-- the block is called with it
abbrev pub asked : Held → Value → ObjId → ObjId → Value → Planned over_items.Stage
asked held recv a b x = record {
  plan = calls (over_items.visits (at_element recv a b x)) b (x ∷ []) None;
  held = held;
}

abbrev pub turn : Held → Value → ObjId → ObjId → Value → Value → Turn
turn held recv a b x y = record { wanted = as_moved items (asked held recv a b x); answer = y; held = held }
