-- Methods of Enumerable that call no block: what they give is by the items that `each` gave.
use Rattle.std.specs.Prelude.{List, Option}
use Rattle.rb_value.specs.declared.value.Value.{Value}
use Rattle.rb_value.specs.declared.value.Value.TheVariants.{Obj}
use Rattle.rb_value.specs.declared.value.ObjId.{ObjId}
use Rattle.rb_store.specs.Held.{Held}
use Rattle.run_values.specs.declared.given.Given.TheVariants.{Gives}
use Rattle.rows_items.specs.declared.rows.ItemRow.{ItemRow}
use Rattle.rows_items.specs.Outcome.{Called}
use Rattle.rows_items.specs.Rows.{Calls}
use Rattle.iter_items.specs.declared.row.GatheringRow.TheVariants as gathering
use Rattle.iter_items.specs.Rows.{gathering_of}
use Rattle.iter_items.specs.Stage.{gathers}
use Rattle.core_iter.specs.Stage.{Stage, items as over_items}

-- where such a method stands while `each` collects the items in an Array
abbrev pub gathers_outright : ItemRow → Value → List Value → Option ObjId → ObjId → Stage
gathers_outright r recv args block collected =
    over_items (gathers (gathering_of (gathering.Outright r) recv args block collected))

-- what the method of that name gives of an Array
abbrev pub IsOfArray : ItemRow → Held → ObjId → List Value → Value → Held → Type 0
IsOfArray r held a args v after = Called (Calls r held (Obj a) args) (Gives v) after
