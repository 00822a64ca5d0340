use Rattle.std.proofs.Common.{◌≡◌, ◌++◌, length, filter}
use Rattle.def_core.specs.Classes.{chain}
use Rattle.class_model.specs.Chain.{left, IsWalk}
use Rattle.class_model.specs.Including.{is_new}
use Rattle.class_model.proofs.inclusion.new_members.Given as goal

abbrev pub invariant-members : goal.invariant-members
invariant-members l = record {
  walk : IsWalk l.walk;
  same : l.list.items ++ filter (is_new l.st.store.objects l.class) (left l.walk) ≡ filter
      (is_new l.st.store.objects l.class) (chain l.st.store.objects l.fn.mixin);
}

abbrev pub decreases-members : goal.decreases-members
decreases-members l = length (left l.walk)
