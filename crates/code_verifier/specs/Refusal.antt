-- Why code is refused.
use Rattle.std.specs.Prelude.{Option, Some, None}
use Rattle.rb_refusal.specs.declared.refusal.Refusal.{Refusal}
use Rattle.rb_refusal.specs.declared.refusal.Refusal.TheVariants as refusals
use Rattle.code_verifier.specs.declared.error.VerifyError.{VerifyError}
use Rattle.code_verifier.specs.declared.error.VerifyError.TheVariants as errors

-- the refusal of code that isn't verified; there is none where memory ran out
abbrev pub refusal_of : VerifyError → Option Refusal
refusal_of (errors.Bad irep at cause) = Some (refusals.Bad irep at cause)
refusal_of errors.NoMemory = None
