use Rattle.def_core.specs.Sound.{Sound}
use Rattle.method_lookup.specs.Cache.{GoesWith}
use Rattle.lookup_tests.proofs.finding.first_wrong.Given as goal

abbrev pub invariant-steps : goal.invariant-steps
invariant-steps l = record { sound : Sound l.st.store; goes_with : GoesWith l.cache l.st }
