use Rattle.std.proofs.Common.{◌≡◌, drop}
use Rattle.rows_items.specs.Told.{with_front}
use Rattle.rows_array.specs.Changed.{elements_of_all}
use Rattle.rows_array.proofs.ending.concat.Given as goal

abbrev pub invariant-arrays : goal.invariant-arrays
invariant-arrays l = elements_of_all l.heap l.fn.args
    ≡ with_front l.more.items (elements_of_all l.heap (drop l.arg-index l.args))
