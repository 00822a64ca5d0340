use Rattle.std.proofs.Common.{◌≡◌}
use Rattle.def_core.specs.Classes.{lineage, nearest_singleton}
use Rattle.def_core.specs.Sound.{census, Any, Is}
use Rattle.class_model.proofs.receiver.nearest_singleton.Given as goal

abbrev pub invariant-superclasses : goal.invariant-superclasses
invariant-superclasses l = record {
  there : Is (census l.st.store) Any l.at;
  same : nearest_singleton l.st.store.objects (lineage l.st.store.objects l.at) l.other ≡ nearest_singleton
      l.st.store.objects (lineage l.st.store.objects l.fn.id) l.other;
}

abbrev pub decreases-superclasses : goal.decreases-superclasses
decreases-superclasses l = l.at.0
