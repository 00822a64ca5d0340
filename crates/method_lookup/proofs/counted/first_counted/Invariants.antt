use Rattle.std.proofs.Common.{◌≡◌, length}
use Rattle.def_core.specs.Find.{first_of}
use Rattle.class_model.specs.Chain.{left, IsWalk}
use Rattle.method_lookup.specs.Probes.{probes, counted}
use Rattle.method_lookup.proofs.counted.first_counted.Given as goal

abbrev pub invariant-members : goal.invariant-members
invariant-members l = record {
  walk : IsWalk l.walk;
  store : l.walk.store.now ≡ l.st;
  same : first_of l.st.store.objects (left l.walk) l.name ≡ first_of l.st.store.objects (left l.fn.walk) l.name;
  ticks : counted l.steps (probes l.st.store.objects (left l.walk) l.name) ≡ counted l.fn.steps
      (probes l.st.store.objects (left l.fn.walk) l.name);
}

abbrev pub decreases-members : goal.decreases-members
decreases-members l = length (left l.walk)
