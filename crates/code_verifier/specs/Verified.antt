-- Code in which nothing can go wrong.
use Rattle.std.specs.Prelude.{◌≡◌, Option, Some, None}
use Rattle.rite_code.specs.Code.{Program}
use Rattle.code_verifier.specs.Checks.{Bad, first_bad}
use Rattle.code_verifier.specs.declared.error.VerifyError.{VerifyError}
use Rattle.code_verifier.specs.declared.error.VerifyError.TheVariants as error

-- no check fails anywhere
abbrev pub IsVerified : Program → Type 0
IsVerified p = first_bad p ≡ None

-- memory ran out, or the first check that fails
abbrev pub IsFault : Option Bad → VerifyError → Type 0
IsFault found (error.Bad k at c) = found ≡ Some (record { irep = k; at = at; cause = c })
IsFault found error.NoMemory = Unit
