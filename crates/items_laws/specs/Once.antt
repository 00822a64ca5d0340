-- Rows whose first answer ends them.
use Rattle.std.specs.Prelude.{Bool, true, false}
use Rattle.iter_comparing.specs.declared.row.ComparingRow.{ComparingRow}
use Rattle.iter_comparing.specs.declared.row.ComparingRow.TheVariants as comparing_row
use Rattle.iter_comparing.specs.declared.row.OrderRow.{OrderRow}
use Rattle.iter_comparing.specs.declared.row.OrderRow.TheVariants as order_row
use Rattle.iter_items.specs.declared.row.ItemsRow.{ItemsRow}
use Rattle.iter_items.specs.declared.row.ItemsRow.TheVariants as items_row
use Rattle.run_rows.specs.declared.row.StarRow.{StarRow}
use Rattle.run_rows.specs.declared.row.StarRow.TheVariants as row
use Rattle.run_rows.specs.declared.row.VisitRow.{VisitRow}
use Rattle.run_rows.specs.declared.row.VisitRow.TheVariants as visit
use Rattle.items_laws.specs.Handed.{wants_one}

-- `between?` and `clamp` ask twice
abbrev pub orders_once : OrderRow → Bool
orders_once order_row.Less = true
orders_once order_row.AtMost = true
orders_once order_row.Greater = true
orders_once order_row.AtLeast = true
orders_once order_row.Equal = true
orders_once order_row.Between = false
orders_once order_row.Clamp = false

-- `!=` and `===`, `*` of an Array, which asks nothing, `[]` and `fetch` of a Hash
abbrev pub compares_once : ComparingRow → Bool
compares_once comparing_row.Differs = true
compares_once comparing_row.Matches = true
compares_once comparing_row.ArrayRepeat = true
compares_once comparing_row.HashElement = true
compares_once comparing_row.HashFetch = true
compares_once (comparing_row.Order r) = orders_once r
compares_once _ = false

-- all of an Enumerator and a Yielder
abbrev pub asks_once : ItemsRow → Bool
asks_once (items_row.Visits t) = false
asks_once (items_row.Compares r) = compares_once r
asks_once (items_row.Enumerates r) = true
asks_once (items_row.Gathers r) = false

-- `initialize` of a Hash, which asks nothing
abbrev pub visits_once : VisitRow → Bool
visits_once visit.InitializeHash = true
visits_once _ = false

abbrev pub wants_once : StarRow → Bool
wants_once (row.Kernel r) = wants_one r
wants_once (row.Visit r) = visits_once r
wants_once (row.Items r) = asks_once r
