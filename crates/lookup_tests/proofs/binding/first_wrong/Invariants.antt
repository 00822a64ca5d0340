use Rattle.def_core.specs.Sound.{Sound}
use Rattle.lookup_tests.proofs.binding.first_wrong.Given as goal

abbrev pub invariant-rows : goal.invariant-rows
invariant-rows l = Sound l.st.store
