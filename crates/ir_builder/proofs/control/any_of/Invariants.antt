use Rattle.std.proofs.Common.{◌≡◌, [], ◌∷◌, ◌++◌, vec_len}
use Rattle.ir_core.specs.Parts.{cores}
use Rattle.ir_builder.specs.Forms.{any_of}
use Rattle.ir_builder.proofs.control.any_of.Given as goal

abbrev pub decreases-tests : goal.decreases-tests
decreases-tests l = vec_len l.before

abbrev pub invariant-tests : goal.invariant-tests
invariant-tests l = any_of (cores (l.before.items ++ l.whole ∷ [])) ≡ any_of (cores l.fn.tests.items)
