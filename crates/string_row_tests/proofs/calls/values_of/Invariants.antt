use Rattle.def_core.specs.Sound.{Sound}
use Rattle.string_row_tests.proofs.calls.values_of.Given as goal

abbrev pub invariant-operands : goal.invariant-operands
invariant-operands l = Sound l.st.store
