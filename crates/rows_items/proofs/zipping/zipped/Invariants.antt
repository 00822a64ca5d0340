use Rattle.std.proofs.Common.{◌≡◌, ◌-◌, length}
use Rattle.rows_items.specs.Zipped.{arrays_from, after_arrays, rows_beside}
use Rattle.rows_items.proofs.zipping.zipped.Given as goal

abbrev pub invariant-items : goal.invariant-items
invariant-items l = arrays_from (rows_beside l.items l.arrays.items) (length l.items) l.fn.heap 0
    ≡ after_arrays l.rows.items (arrays_from (rows_beside l.items l.arrays.items) (length l.items - l.place) l.heap l.place)
