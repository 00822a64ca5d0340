use Rattle.std.proofs.Common.{◌≡◌, ◌-◌}
use Rattle.rows_items.specs.Items.{pair_parts}
use Rattle.rows_items.specs.Zipped.{arrays_from, after_arrays}
use Rattle.rows_items.proofs.items.pair_items.Given as goal

abbrev pub invariant-pairs : goal.invariant-pairs
invariant-pairs l = arrays_from (pair_parts l.id) l.count l.fn.heap 0
    ≡ after_arrays l.items.items (arrays_from (pair_parts l.id) (l.count - l.place) l.heap l.place)
