-- What the checks answer: nothing, or the first failure.
use Rattle.std.specs.Prelude.{Option, Some, None, Result, Ok, Err}
use Rattle.code_verifier.specs.Checks.{Bad}
use Rattle.code_verifier.specs.declared.error.VerifyError.{VerifyError}
use Rattle.code_verifier.specs.declared.error.VerifyError.TheVariants as error

abbrev pub outcome : {E : Type 0} → Option E → Result Unit E
outcome None = Ok tt
outcome (Some e) = Err e

abbrev pub reported : Option Bad → Option VerifyError
reported None = None
reported (Some x) = Some (error.Bad x.irep x.at x.cause)

abbrev pub answer : Option Bad → Result Unit VerifyError
answer found = outcome (reported found)
