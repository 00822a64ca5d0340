-- The file of the code of a core.
use Rattle.std.proofs.Common.{◌≡◌, ℕ, List, None, refl, ap, ◌∙◌, subst, sym, Ok}
use Rattle.ir_core.specs.CoreForm.{Body}
use Rattle.ir_counts.specs.Counts.{need}
use Rattle.ir_counts.specs.Limits.{first_excess}
use Rattle.rite_code.specs.Code.{Program, IsWhole}
use Rattle.rite_file.specs.File.{canonical, Spells}
use Rattle.rite_file.specs.Loaded.{loaded}
use Rattle.code_verifier.specs.Verified.{IsVerified}
use Rattle.code_generator.specs.Built.{code_built}
use Rattle.file_maker.specs.Making.{code_of, file_of, MeansItsSource, IsFileOf}

-- it spells that code, which means what the source means
pub filed : (c : Body) (bytes : List ℕ) (code : Program) → code_built c ≡ None → first_excess (need c) ≡ None
    → code ≡ code_of c → bytes ≡ canonical code → Spells bytes code → IsWhole (code_of c) → IsVerified (code_of c)
    → ((xs : List ℕ) (p : Program) → IsWhole p → Spells xs p → loaded xs ≡ Ok p)
    → MeansItsSource c (code_of c) → IsFileOf c bytes code
filed c bytes code none within is written spelled whole verified again means =
    let file : bytes ≡ file_of c = written ∙ ap canonical is in
    let spells : Spells (file_of c) (code_of c) =
    subst (λ (p : Program). Spells (file_of c) p) is (subst (λ (xs : List ℕ). Spells xs code) file spelled) in
    subst (IsFileOf c bytes) (sym is)
    (none, within, file, refl, again (file_of c) (code_of c) whole spells, verified, means)
