use Rattle.code_verifier.proofs.Passing.{passes_body, verified_body, without_cause}
use Rattle.code_verifier.proofs.laws.every_check_holds.Goals as goal

pub returns : goal.returns
returns c = record {
  bodies = λ p k b h at. passes_body p k b (verified_body p k b h at);
  causes = λ p k i b s h at here. without_cause p k b i s (verified_body p k b h at) here;
}
