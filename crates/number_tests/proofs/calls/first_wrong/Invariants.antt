use Rattle.def_core.specs.Sound.{Sound}
use Rattle.number_tests.proofs.calls.first_wrong.Given as goal

abbrev pub invariant-cases : goal.invariant-cases
invariant-cases l = Sound l.st.store
