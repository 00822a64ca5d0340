use Rattle.std.proofs.Common.{◌≡◌, ◌-◌}
use Rattle.core_iter.specs.Making.{core_from, near}
use Rattle.core_iter.proofs.making.core_above.Given as goal

abbrev pub invariant-classes : goal.invariant-classes
invariant-classes l = core_from near l.heap.store l.class l.class ≡ core_from (near - l._taken) l.heap.store l.class l.above
