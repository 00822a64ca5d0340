-- What becomes of a text whose code runs in memory.
use Rattle.std.specs.Prelude.{ℕ, List, Vec}
use Rattle.std.specs.declared.alloc.Global.{Global}
use Rattle.rite_code.specs.Code.{Program}
use Rattle.file_maker.specs.Making.{IsMade}
use Rattle.file_maker.specs.declared.made.Made.TheVariants as made
use Rattle.rb_exec.specs.declared.running.Played.{Played}
use Rattle.rb_exec.specs.declared.running.Played.TheVariants.{Ended, Uncaught, Spent, Refused, FileFault, NoMemory, InputFault, OutputFault}

-- a fault of an input and an output in memory is that memory ran out
abbrev pub faultless : Played → Played
faultless (Ended status) = Ended status
faultless (Uncaught line) = Uncaught line
faultless Spent = Spent
faultless (Refused cause) = Refused cause
faultless FileFault = NoMemory
faultless NoMemory = NoMemory
faultless InputFault = NoMemory
faultless OutputFault = NoMemory

-- a run in memory refuses nothing, and has no other fault
abbrev pub IsPlayed : Played → Type 0
IsPlayed (Ended status) = Unit {0}
IsPlayed (Uncaught line) = Unit {0}
IsPlayed Spent = Unit {0}
IsPlayed (Refused cause) = ⊥
IsPlayed FileFault = ⊥
IsPlayed NoMemory = Unit {0}
IsPlayed InputFault = ⊥
IsPlayed OutputFault = ⊥

-- the text has its file, which spells verified code
abbrev pub HasCode : List ℕ → Type 0
HasCode text = (bytes : Vec ℕ Global) × (code : Program) × IsMade text (made.File bytes code)

-- The text is refused, for a count past its limit; memory ran out; or what was run is its code. It comes out in no
-- other way.
abbrev pub IsTextRun : List ℕ → Played → Type 0
IsTextRun text (Ended status) = HasCode text
IsTextRun text (Uncaught line) = HasCode text
IsTextRun text Spent = HasCode text
IsTextRun text (Refused cause) = IsMade text (made.Refused cause)
IsTextRun text FileFault = ⊥
IsTextRun text NoMemory = Unit {0}
IsTextRun text InputFault = ⊥
IsTextRun text OutputFault = ⊥

-- the front refuses the text, or it has no form beyond those of the first path
abbrev pub GoesFirst : List ℕ → Type 0
GoesFirst text = IsMade text made.FirstPath
