-- Why a file is refused.
use Rattle.std.specs.Prelude.{Option, Some, None}
use Rattle.rb_refusal.specs.declared.refusal.Refusal.{Refusal}
use Rattle.rb_refusal.specs.declared.refusal.Refusal.TheVariants as refusals
use Rattle.rite_file.specs.declared.error.LoadError.{LoadError}
use Rattle.rite_file.specs.declared.error.LoadError.TheVariants as errors

-- the refusal of a file that isn't loaded; there is none where memory ran out
abbrev pub refusal_of : LoadError → Option Refusal
refusal_of errors.NotRite = Some refusals.NotRite
refusal_of (errors.Foreign name) = Some (refusals.Foreign name)
refusal_of (errors.Truncated at) = Some (refusals.Truncated at)
refusal_of (errors.BadSection at) = Some (refusals.BadSection at)
refusal_of (errors.BadRecord at) = Some (refusals.BadRecord at)
refusal_of errors.NoMemory = None
