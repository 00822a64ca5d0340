use Rattle.std.proofs.Common.{◌≡◌}
use Rattle.rows_array.specs.Changed.{without_last}
use Rattle.rows_array.proofs.ending.drop_last.Given as goal

abbrev pub invariant-elements : goal.invariant-elements
invariant-elements l = l.heap ≡ without_last l._taken l.fn.heap l.id
