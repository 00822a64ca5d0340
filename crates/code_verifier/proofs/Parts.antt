-- The parts of a body in their order: its instructions, the place where reading ends, its catch entries.
use Rattle.std.proofs.Common.{◌≡◌, sym, ap, ◌∙◌, ℕ, List, ◌∷◌}
use Rattle.std.specs.Prelude.{Ok, Err}
use Rattle.rite_code.specs.declared.cause.Cause.{Cause}
use Rattle.rite_code.specs.declared.code.Irep.{Irep}
use Rattle.rite_code.specs.Code.{Program}
use Rattle.code_outline.specs.Layout.{layout, end_of}
use Rattle.code_verifier.specs.Answers.{answer, outcome}
use Rattle.code_verifier.specs.Checks.{first, instructions_bad, end_bad, catches_bad, read_whole, body_bad}
use Rattle.code_verifier.specs.declared.error.VerifyError.{VerifyError}
use Rattle.code_verifier.specs.declared.error.VerifyError.TheVariants as error
use Rattle.code_verifier.proofs.Firsts.{past, before, head_past, head_before, broken, unbroken}

-- no instruction of the body fails
abbrev pub GoOn : Program → ℕ → Irep → Type 0
GoOn p k b = let ss = layout p.version b.code in Ok tt ≡ answer (first (instructions_bad p k b ss ss))

pub in_instructions : (p : Program) (k : ℕ) (b : Irep) (e : VerifyError)
    → Err e ≡ answer (first (instructions_bad p k b (layout p.version b.code) (layout p.version b.code)))
    → Err e ≡ answer (body_bad p k b)
unfolding body_bad
in_instructions p k b e h =
    let ss = layout p.version b.code in
    sym (before (instructions_bad p k b ss ss) (end_bad p k b (end_of 0 ss) ∷ catches_bad k b ss b.catches) e h)

same_end : (v w : ℕ) (xs ys : List ℕ) (m n : ℕ) → v ≡ w → xs ≡ ys → m ≡ n → read_whole v xs m ≡ read_whole w ys n
same_end v w xs ys m n e f g = ap (λ (u : ℕ). read_whole u xs m) e
    ∙ (ap (λ (zs : List ℕ). read_whole w zs m) f ∙ ap (read_whole w ys) g)

pub in_end : (p : Program) (k : ℕ) (b : Irep) (version : ℕ) (code : List ℕ) (end : ℕ) (c : Cause)
    → version ≡ p.version → code ≡ b.code → end ≡ end_of 0 (layout p.version b.code)
    → GoOn p k b → Err c ≡ outcome (read_whole version code end) → Err (error.Bad k end c) ≡ answer (body_bad p k b)
unfolding body_bad
in_end p k b version code end c e f g on h =
    let ss = layout p.version b.code in
    let whole = ap outcome (same_end version p.version code b.code end (end_of 0 ss) e f g) in
    ap (λ (n : ℕ). Err (error.Bad k n c)) g
    ∙ sym (past (instructions_bad p k b ss ss) (end_bad p k b (end_of 0 ss) ∷ catches_bad k b ss b.catches) on
    ∙ head_before (end_bad p k b (end_of 0 ss)) (catches_bad k b ss b.catches) (error.Bad k (end_of 0 ss) c)
    (broken k (end_of 0 ss) (read_whole p.version b.code (end_of 0 ss)) c (h ∙ whole)))

pub in_catches : (p : Program) (k : ℕ) (b : Irep) (version : ℕ) (code : List ℕ) (end : ℕ) → version ≡ p.version
    → code ≡ b.code → end ≡ end_of 0 (layout p.version b.code)
    → GoOn p k b → Ok tt ≡ outcome (read_whole version code end)
    → answer (first (catches_bad k b (layout p.version b.code) b.catches)) ≡ answer (body_bad p k b)
unfolding body_bad
in_catches p k b version code end e f g on h =
    let ss = layout p.version b.code in
    let whole = ap outcome (same_end version p.version code b.code end (end_of 0 ss) e f g) in
    sym (past (instructions_bad p k b ss ss) (end_bad p k b (end_of 0 ss) ∷ catches_bad k b ss b.catches) on
    ∙ head_past (end_bad p k b (end_of 0 ss)) (catches_bad k b ss b.catches)
    (unbroken k (end_of 0 ss) (read_whole p.version b.code (end_of 0 ss)) (h ∙ whole)))
