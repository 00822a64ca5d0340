use Rattle.std.proofs.Common.{◌≡◌}
use Rattle.run_rows.specs.Opening.{with_segments}
use Rattle.run_rows.proofs.opening.add_segments.Given as goal

abbrev pub invariant-segments : goal.invariant-segments
invariant-segments l = l.heap.store ≡ with_segments l.fn.heap.store l.segment
