use Rattle.std.proofs.Common.{◌≡◌, drop}
use Rattle.rows_array.specs.Changed.{unshifted_all}
use Rattle.rows_array.proofs.ending.unshift.Given as goal

abbrev pub invariant-places : goal.invariant-places
invariant-places l = l.heap ≡ unshifted_all l.fn.heap l.id (drop l.place l.values)
