use Rattle.std.proofs.Common.{◌≡◌, ◌≤◌, drop, length}
use Rattle.heap.specs.Copies.{with_mixins}
use Rattle.heap.proofs.heap.Heap.include_all.Given as goal

abbrev pub invariant-modules : goal.invariant-modules
invariant-modules l = record {
  within : l.at ≤ length l.modules;
  same : l.self.store ≡ with_mixins l.fn.self.store l.made (drop l.at l.modules);
}

abbrev pub decreases-modules : goal.decreases-modules
decreases-modules l = l.at
