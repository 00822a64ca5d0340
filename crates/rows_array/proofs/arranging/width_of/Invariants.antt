use Rattle.std.proofs.Common.{◌≡◌, drop}
use Rattle.rows_array.specs.Read.{are_as_long}
use Rattle.rows_array.proofs.arranging.width_of.Given as goal

abbrev pub invariant-lines : goal.invariant-lines
invariant-lines l = are_as_long l.heap.store l.width l.fn.lines
    ≡ are_as_long l.heap.store l.width (drop l.line-index l.lines)
