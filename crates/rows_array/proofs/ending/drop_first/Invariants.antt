use Rattle.std.proofs.Common.{◌≡◌}
use Rattle.rows_array.specs.Changed.{without_first}
use Rattle.rows_array.proofs.ending.drop_first.Given as goal

abbrev pub invariant-elements : goal.invariant-elements
invariant-elements l = l.heap ≡ without_first l._taken l.fn.heap l.id
