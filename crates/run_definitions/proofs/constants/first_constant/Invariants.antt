use Rattle.std.proofs.Common.{◌≡◌, length}
use Rattle.def_core.specs.Sound.{census, Is, ClassOrModule, AllAre}
use Rattle.class_model.specs.AncestorsLeft.{ancestors_left, IsAncestry}
use Rattle.def_calls.specs.Constants.{first_constant}
use Rattle.run_definitions.proofs.constants.first_constant.Given as goal

abbrev pub invariant-ancestors : goal.invariant-ancestors
invariant-ancestors l = record {
  walk : IsAncestry l.walk;
  classes : AllAre (Is (census l.st.store) ClassOrModule) (ancestors_left l.walk);
  same : first_constant l.st.store.objects (ancestors_left l.walk) l.name
      ≡ first_constant l.st.store.objects (ancestors_left l.fn.walk) l.name;
}

abbrev pub decreases-ancestors : goal.decreases-ancestors
decreases-ancestors l = length (ancestors_left l.walk)
