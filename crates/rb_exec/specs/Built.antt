-- What becomes of the source in a file, and of a file of code.
use Rattle.std.specs.Prelude.{◌≡◌, ◌⊎◌, ℕ, List, Option, Some, None, Ok, Err}
use Rattle.rite_code.specs.Code.{Program}
use Rattle.file_maker.specs.Disk.{Disk, Untouched, LoadFailed, StoreFailed}
use Rattle.file_maker.specs.Storing.{IsStored, IsRefused, IsLeft, IsRead}
use Rattle.rb_exec.specs.declared.running.Played.{Played}
use Rattle.rb_exec.specs.declared.running.Played.TheVariants.{Ended, Uncaught, Spent, Refused, FileFault, NoMemory, InputFault, OutputFault}

-- the file holds the code of the text of the source, and nothing else is done
abbrev pub HasFile : Disk → Disk → List ℕ → List ℕ → Type 0
HasFile before after source file = (code : Program) × IsStored before after source file code

-- The text of the source is refused, for a count past its limit; the store failed; memory ran out; or the file holds the
-- code of the text. It comes out in no other way.
abbrev pub IsBuilt : Disk → Disk → List ℕ → List ℕ → Played → Type 0
IsBuilt before after source file (Ended status) = (status ≡ 0) × HasFile before after source file
IsBuilt before after source file (Refused cause) = IsRefused before after source cause
IsBuilt before after source file FileFault = StoreFailed before after file
IsBuilt before after source file NoMemory = Untouched before after
IsBuilt before after source file (Uncaught line) = ⊥
IsBuilt before after source file Spent = ⊥
IsBuilt before after source file InputFault = ⊥
IsBuilt before after source file OutputFault = ⊥

-- the same, or the source goes the first path
abbrev pub Builds : Disk → Disk → List ℕ → List ℕ → Option Played → Type 0
Builds before after source file None = IsLeft before after source
Builds before after source file (Some played) = IsBuilt before after source file played

-- a run refuses nothing, and loads and stores no file
abbrev pub IsRun : Played → Type 0
IsRun (Refused cause) = ⊥
IsRun FileFault = ⊥
IsRun (Ended status) = Unit {0}
IsRun (Uncaught line) = Unit {0}
IsRun Spent = Unit {0}
IsRun NoMemory = Unit {0}
IsRun InputFault = Unit {0}
IsRun OutputFault = Unit {0}

-- memory ran out before the file was stored, or while its code ran
abbrev pub RanOut : Disk → Disk → List ℕ → List ℕ → Type 0
RanOut before after source file = Untouched before after ⊎ HasFile before after source file

-- As where it is built; and what was run is the code that the file holds.
abbrev pub IsExecuted : Disk → Disk → List ℕ → List ℕ → Played → Type 0
IsExecuted before after source file (Refused cause) = IsRefused before after source cause
IsExecuted before after source file FileFault = StoreFailed before after file
IsExecuted before after source file NoMemory = RanOut before after source file
IsExecuted before after source file (Ended status) = HasFile before after source file
IsExecuted before after source file (Uncaught line) = HasFile before after source file
IsExecuted before after source file Spent = HasFile before after source file
IsExecuted before after source file InputFault = HasFile before after source file
IsExecuted before after source file OutputFault = HasFile before after source file

abbrev pub Executes : Disk → Disk → List ℕ → List ℕ → Option Played → Type 0
Executes before after source file None = IsLeft before after source
Executes before after source file (Some played) = IsExecuted before after source file played

-- the file is one of verified code, and nothing is done to files
abbrev pub IsOfCode : Disk → Disk → List ℕ → Type 0
IsOfCode before after file = (code : Program) × IsRead before after file (Ok code)

-- A file is refused for what it holds; it can't be read; memory ran out; or what was run is its code.
abbrev pub Runs : Disk → Disk → List ℕ → Played → Type 0
Runs before after file (Refused cause) = IsRead before after file (Err cause)
Runs before after file FileFault = LoadFailed before after file
Runs before after file NoMemory = Untouched before after
Runs before after file (Ended status) = IsOfCode before after file
Runs before after file (Uncaught line) = IsOfCode before after file
Runs before after file Spent = IsOfCode before after file
Runs before after file InputFault = IsOfCode before after file
Runs before after file OutputFault = IsOfCode before after file
