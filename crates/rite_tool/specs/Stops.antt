-- Why a command stops before anything is run or shown.
use Rattle.std.specs.Prelude.{Option, Some, None}
use Rattle.rb_base.specs.declared.outside.FileError.{FileError}
use Rattle.rb_base.specs.declared.outside.FileError.TheVariants as file_errors
use Rattle.rb_refusal.specs.declared.refusal.Refusal.{Refusal}
use Rattle.rite_tool.specs.declared.stop.Stop.{Stop}
use Rattle.rite_tool.specs.declared.stop.Stop.TheVariants.{Refused, FileFault, NoMemory}

-- for a refusal, or memory that ran out where there is none
abbrev pub of_refusal : Option Refusal → Stop
of_refusal (Some r) = Refused r
of_refusal None = NoMemory

-- for a file that isn't read
abbrev pub of_file_error : FileError → Stop
of_file_error file_errors.Failed = FileFault
of_file_error file_errors.NoMemory = NoMemory
