use Rattle.std.proofs.Common.{◌≡◌, length}
use Rattle.def_core.specs.Classes.{is_member}
use Rattle.class_model.specs.Chain.{left, IsWalk}
use Rattle.class_model.proofs.inclusion.is_ahead.Given as goal

abbrev pub invariant-members : goal.invariant-members
invariant-members l = record {
  walk : IsWalk l.walk;
  same : is_member (left l.walk) l.other ≡ is_member (left l.fn.walk) l.other;
}

abbrev pub decreases-members : goal.decreases-members
decreases-members l = length (left l.walk)
