use Rattle.std.proofs.Common.{◌≡◌, drop}
use Rattle.rows_items.specs.Told.{with_front, each}
use Rattle.rows_array.specs.Read.{at}
use Rattle.rows_array.proofs.reading.values_at.Given as goal

abbrev pub invariant-indexes : goal.invariant-indexes
invariant-indexes l = each (at l.heap.store l.id) l.fn.args
    ≡ with_front l.values.items (each (at l.heap.store l.id) (drop l.index-index l.args))
