use Rattle.std.proofs.Common.{◌≡◌, drop}
use Rattle.rows_items.specs.Told.{with_front, each}
use Rattle.rows_items.specs.Checks.{array_of}
use Rattle.rows_items.proofs.zipping.arrays.Given as goal

abbrev pub invariant-args-2 : goal.invariant-args-2
invariant-args-2 l = each (array_of l.heap.store) l.fn.args
    ≡ with_front l.arrays.items (each (array_of l.heap.store) (drop l.arg-index l.args))
