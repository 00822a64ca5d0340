use Rattle.def_core.specs.Sound.{Sound}
use Rattle.number_tests.proofs.calls.prepared.Given as goal

abbrev pub invariant-texts : goal.invariant-texts
invariant-texts l = Sound l.st.store

abbrev pub invariant-made : goal.invariant-made
invariant-made l = Sound l.st.store
