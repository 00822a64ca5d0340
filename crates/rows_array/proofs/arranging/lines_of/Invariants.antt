use Rattle.std.proofs.Common.{◌≡◌, drop}
use Rattle.rows_items.specs.Told.{with_front, each}
use Rattle.rows_items.specs.Checks.{array_of}
use Rattle.rows_array.proofs.arranging.lines_of.Given as goal

abbrev pub invariant-elements : goal.invariant-elements
invariant-elements l = each (array_of l.heap.store) l.value-items
    ≡ with_front l.lines.items (each (array_of l.heap.store) (drop l.value-index l.value-items))
