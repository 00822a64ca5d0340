-- What the answer says of the first failure.
use Rattle.std.proofs.Common.{◌≡◌, refl, sym, ap, ◌∙◌, ℕ}
use Rattle.std.specs.Prelude.{None, Some, Option, Ok, Err}
use Rattle.rite_code.specs.declared.cause.Cause.{Cause}
use Rattle.code_verifier.specs.Answers.{answer}
use Rattle.code_verifier.specs.Checks.{Bad}
use Rattle.code_verifier.specs.Verified.{IsFault}
use Rattle.code_verifier.specs.declared.error.VerifyError.{VerifyError}
use Rattle.code_verifier.specs.declared.error.VerifyError.TheVariants as error

pub no_fault : (found : Option Bad) → Ok tt ≡ answer found → found ≡ None
no_fault None h = refl
no_fault (Some x) h = absurd cc

same_bad : (x : Bad) (k at : ℕ) (c : Cause) → k ≡ x.irep → at ≡ x.at → c ≡ x.cause → Some x ≡ Some (record {
  irep = k;
  at = at;
  cause = c;
})
same_bad x k at c e f g =
    ap (λ (n : ℕ). Some (record { irep = n; at = x.at; cause = x.cause })) (sym e)
    ∙ (ap (λ (n : ℕ). Some (record { irep = k; at = n; cause = x.cause })) (sym f) ∙ ap (λ (d : Cause). Some (record {
      irep = k;
      at = at;
      cause = d;
    })) (sym g))

pub is_fault : (found : Option Bad) (e : VerifyError) → Err e ≡ answer found → IsFault found e
is_fault None e h = absurd cc
is_fault (Some x) error.NoMemory h = tt
is_fault (Some x) (error.Bad k at c) h = same_bad x k at c (cc) (cc) (cc)
