use Rattle.std.proofs.Common.{subst}
use Rattle.std.proofs.lemmas.Int.{to_z-of_z}
use Rattle.std.specs.Int.{FitsUnsignedBits, w64}
use Rattle.code_verifier.proofs.Starts.{none_outside}
use Rattle.code_verifier.proofs.checks.leads_to_start.Goals as goal

pub returns-in-Err : goal.returns-in-Err
returns-in-Err c = λ version code short laid.
    none_outside version code c.args.layout.now c.args.target short laid
    (subst (λ z. FitsUnsignedBits 32 z → ⊥) (to_z-of_z w64 c.args.target c.ranges.target) c.in-Err.ensures)
