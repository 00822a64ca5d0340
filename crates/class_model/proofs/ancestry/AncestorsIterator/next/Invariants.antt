use Rattle.std.proofs.Common.{◌≡◌, length}
use Rattle.class_model.specs.Chain.{left}
use Rattle.class_model.specs.AncestorsLeft.{ancestors_left, IsAncestry}
use Rattle.class_model.proofs.ancestry.AncestorsIterator.next.Given as goal

abbrev pub invariant-singletons : goal.invariant-singletons
invariant-singletons l = record {
  ancestry : IsAncestry l.self;
  same : ancestors_left l.self ≡ ancestors_left l.fn.self;
}

abbrev pub decreases-singletons : goal.decreases-singletons
decreases-singletons l = length (left l.self.walk)
