use Rattle.std.proofs.Common.{◌≡◌, ◌++◌, length}
use Rattle.class_model.specs.AncestorsLeft.{ancestors_left, IsAncestry}
use Rattle.heap.proofs.classes.ancestors_of.Given as goal

abbrev pub invariant-ancestors : goal.invariant-ancestors
invariant-ancestors l = record {
  walk : IsAncestry l.walk;
  same : l.all.items ++ ancestors_left l.walk ≡ ancestors_left l.fn.walk;
}

abbrev pub decreases-ancestors : goal.decreases-ancestors
decreases-ancestors l = length (ancestors_left l.walk)
