use Rattle.std.proofs.Common.{◌≡◌, drop}
use Rattle.rows_class.specs.Making.{is_below_any}
use Rattle.rows_class.proofs.making.is_below_any.Given as goal

abbrev pub invariant-classes : goal.invariant-classes
invariant-classes l = is_below_any l.heap.store l.class l.fn.among
    ≡ is_below_any l.heap.store l.class (drop l.core-index l.among)
