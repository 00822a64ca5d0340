-- Why a source is refused.
use Rattle.std.specs.Prelude.{Option, Some, None}
use Rattle.rb_refusal.specs.declared.refusal.Refusal.{Refusal}
use Rattle.rb_refusal.specs.declared.refusal.Refusal.TheVariants as refusals
use Rattle.rb_compile.specs.declared.error.CompileError.{CompileError}
use Rattle.rb_compile.specs.declared.error.CompileError.TheVariants as errors

-- the refusal of a source that isn't compiled; there is none where memory ran out
abbrev pub refusal_of : CompileError → Option Refusal
refusal_of (errors.TooLarge what count) = Some (refusals.TooLarge what count)
refusal_of (errors.Syntax at) = Some (refusals.Syntax at)
refusal_of errors.TooDeep = Some refusals.TooDeep
refusal_of (errors.Outside what at) = Some (refusals.Outside what at)
refusal_of errors.NoMemory = None
