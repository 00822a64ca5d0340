-- What a method of Enumerable wants first.
use Rattle.std.specs.Prelude.{◌≡◌, List, [], codes, false, Option, Some}
use Rattle.rb_value.specs.declared.value.Value.{Value}
use Rattle.rb_value.specs.declared.value.Value.TheVariants.{Obj}
use Rattle.rb_value.specs.declared.value.ObjId.{ObjId}
use Rattle.def_core.specs.Store.{next_number}
use Rattle.heap.specs.Made.{with_core_proc, with_items}
use Rattle.rb_store.specs.Held.{Held}
use Rattle.def_plans.specs.Plan.{Planned}
use Rattle.iter_items.specs.declared.row.GatheringRow.{GatheringRow}
use Rattle.iter_items.specs.Rows.{collect_row, gathering_of}
use Rattle.iter_items.specs.Stage.{gathers}
use Rattle.core_iter.specs.Stage.{Stage, items}
use Rattle.items_laws.specs.Run.{waiting}
use Rattle.items_laws.specs.Asked.{symbol, with_symbol}
use Rattle.items_laws.specs.Handed.{message_in}

-- the heap with a new Array, and a new Proc that collects in it what it is called with
abbrev pub with_collector : Held → Held
with_collector held = with_core_proc (with_items held) collect_row (Obj (next_number held.store))

-- The receiver is asked for `each` with such a Proc, once the arguments are read; the method waits to go on with that Array.
pub record AsksEach (r : GatheringRow) (recv : Value) (args : List Value) (block : Option ObjId) (p : Planned Stage)
    : Type 0 where
  pub begun : Held
  pub message : message_in p.plan ≡ Some (
    recv,
    symbol (codes "each") (with_collector begun),
    [],
    Some (next_number (with_items begun).store),
    false,
  )
  pub heap : p.held ≡ with_symbol (codes "each") (with_collector begun)
  pub waits : waiting p.plan ≡ Some (items (gathers (gathering_of r recv args block (next_number begun.store))))
