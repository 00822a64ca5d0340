use Rattle.std.proofs.Common.{◌≡◌, ◌++◌, filter}
use Rattle.class_model.specs.Singletons.{is_missing}
use Rattle.def_core.specs.Classes.{lineage}
use Rattle.def_core.specs.Sound.{census, Any, Is, AllAre}
use Rattle.class_model.proofs.singletons.missing.Given as goal

abbrev pub invariant-superclasses : goal.invariant-superclasses
invariant-superclasses l = record {
  there : Is (census l.st.store) Any l.at;
  all : AllAre (Is (census l.st.store) Any) l.list.items;
  same : l.list.items ++ filter (is_missing l.st.store.objects) (lineage l.st.store.objects l.at) ≡ filter
      (is_missing l.st.store.objects) (lineage l.st.store.objects l.fn.id);
}

abbrev pub decreases-superclasses : goal.decreases-superclasses
decreases-superclasses l = l.at.0
