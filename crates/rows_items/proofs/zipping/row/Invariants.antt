use Rattle.std.proofs.Common.{◌≡◌, ◌++◌, drop}
use Rattle.rows_items.specs.Zipped.{row_of, elements_beside}
use Rattle.rows_items.proofs.zipping.row.Given as goal

abbrev pub invariant-arrays : goal.invariant-arrays
invariant-arrays l = row_of l.heap.store l.fn.value l.fn.arrays l.place
    ≡ l.row.items ++ elements_beside l.heap.store (drop l.id-index l.arrays) l.place
