use Rattle.def_core.specs.Sound.{Sound}
use Rattle.class_tests.proofs.scripts.first_wrong.Given as goal

abbrev pub invariant-steps : goal.invariant-steps
invariant-steps l = Sound l.st.store
