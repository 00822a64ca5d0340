use Rattle.std.proofs.Common.{◌≡◌, length}
use Rattle.def_core.specs.Classes.{is_member}
use Rattle.class_model.specs.Chain.{left, IsWalk}
use Rattle.method_lookup.proofs.permission.is_on.Given as goal

abbrev pub invariant-members : goal.invariant-members
invariant-members l = record {
  walk : IsWalk l.walk;
  same : is_member (left l.walk) l.owner ≡ is_member (left l.fn.walk) l.owner;
}

abbrev pub decreases-members : goal.decreases-members
decreases-members l = length (left l.walk)
