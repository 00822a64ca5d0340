use Rattle.std.proofs.Common.{◌≡◌, ◌++◌, drop}
use Rattle.rows_items.specs.Zipped.{elements_beside}
use Rattle.rows_array.proofs.arranging.column.Given as goal

abbrev pub invariant-lines : goal.invariant-lines
invariant-lines l = elements_beside l.heap.store l.fn.lines l.place
    ≡ l.column.items ++ elements_beside l.heap.store (drop l.line-index l.lines) l.place
