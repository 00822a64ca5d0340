use Rattle.std.proofs.Common.{◌≡◌, length}
use Rattle.def_core.specs.Find.{behind}
use Rattle.class_model.specs.Chain.{left, IsWalk}
use Rattle.method_lookup.proofs.super_search.pass.Given as goal

abbrev pub invariant-members : goal.invariant-members
invariant-members l = record {
  walk : IsWalk l.walk;
  store : l.walk.store.now ≡ l.fn.walk.store.now;
  same : behind l.owner (left l.walk) ≡ behind l.owner (left l.fn.walk);
}

abbrev pub decreases-members : goal.decreases-members
decreases-members l = length (left l.walk)
