use Rattle.std.proofs.Common.{◌≡◌, ◌-◌}
use Rattle.rows_items.specs.Zipped.{arrays_from, after_arrays}
use Rattle.rows_array.specs.Read.{columns}
use Rattle.rows_array.proofs.arranging.transpose.Given as goal

abbrev pub invariant-columns : goal.invariant-columns
invariant-columns l = arrays_from (columns l.lines.items) l.width l.fn.heap 0
    ≡ after_arrays l.columns.items (arrays_from (columns l.lines.items) (l.width - l.place) l.heap l.place)
