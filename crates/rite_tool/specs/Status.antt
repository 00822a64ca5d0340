-- The status of each answer.
use Rattle.std.specs.Prelude.{ℕ}
use Rattle.rite_tool.specs.declared.end.End.{End}
use Rattle.rite_tool.specs.declared.end.End.TheVariants.{Ended, Uncaught, Usage, Refused, Spent, NoMemory, InputFault, OutputFault, FileFault}

abbrev pub status_of : End → ℕ
status_of (Ended n) = n
status_of Uncaught = 1
status_of Usage = 120
status_of (Refused r) = 121
status_of Spent = 122
status_of NoMemory = 123
status_of InputFault = 124
status_of OutputFault = 125
status_of FileFault = 126
