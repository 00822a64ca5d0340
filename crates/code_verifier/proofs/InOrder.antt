-- The bodies, one at a time.
use Rattle.std.proofs.Common.{◌≡◌, ◌∙◌, ℕ, ◌+◌, ◌<◌, ◌≤◌, List, length, get_or, drop}
use Rattle.std.specs.Prelude.{Ok, Err}
use Rattle.std.proofs.lemmas.List.{at_drop_more, at_drop_all}
use Rattle.rite_code.specs.declared.code.Irep.{Irep}
use Rattle.rite_code.specs.Code.{Program}
use Rattle.code_verifier.specs.Answers.{answer}
use Rattle.code_verifier.specs.Checks.{first, body_bad, bodies_bad}
use Rattle.code_verifier.specs.declared.error.VerifyError.{VerifyError}
use Rattle.code_verifier.proofs.Firsts.{head_past, head_before}

pub body_past : (p : Program) (bs : List Irep) (i : ℕ) (d : Irep) → i < length bs
    → Ok tt ≡ answer (body_bad p i (get_or bs i d))
    → answer (first (bodies_bad p i (drop i bs))) ≡ answer (first (bodies_bad p (i + 1) (drop (i + 1) bs)))
unfolding bodies_bad
body_past p bs i d lt h = at_drop_more (λ xs. answer (first (bodies_bad p i xs))) bs i d lt
    ∙ head_past (body_bad p i (get_or bs i d)) (bodies_bad p (i + 1) (drop (i + 1) bs)) h

pub body_before : (p : Program) (bs : List Irep) (i : ℕ) (d : Irep) (e : VerifyError) → i < length bs
    → Err e ≡ answer (body_bad p i (get_or bs i d)) → answer (first (bodies_bad p i (drop i bs))) ≡ Err e
unfolding bodies_bad
body_before p bs i d e lt h = at_drop_more (λ xs. answer (first (bodies_bad p i xs))) bs i d lt
    ∙ head_before (body_bad p i (get_or bs i d)) (bodies_bad p (i + 1) (drop (i + 1) bs)) e h

pub bodies_past : (p : Program) (bs : List Irep) (i : ℕ) → length bs ≤ i
    → answer (first (bodies_bad p i (drop i bs))) ≡ Ok tt
unfolding bodies_bad first
bodies_past p bs i le = at_drop_all (λ xs. answer (first (bodies_bad p i xs))) bs i le
