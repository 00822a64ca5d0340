-- What building, executing and running on the general path do, and what is told of it.
use Rattle.std.specs.Prelude.{◌≡◌, ℕ, List, [], ◌++◌, codes, decimal, Bool, true, false, ◌&&◌, if◌then◌else◌, Option, Some, None}
use Rattle.rb_refusal.specs.Writing.{Stream}
use Rattle.file_maker.specs.Disk.{Disk}
use Rattle.file_maker.specs.Storing.{IsLeft}
use Rattle.rb_exec.specs.Built as exec
use Rattle.rb_exec.specs.declared.running.Played.{Played}
use Rattle.rb_exec.specs.declared.running.Played.TheVariants as played
use Rattle.rite_tool.specs.Told.{Silent}
use Rattle.rite_tool.specs.Texts as texts
use Rattle.rite_tool.specs.Words.{Run, most_turns}
use Rattle.rite_tool.specs.Writing.{IsAnswer}
use Rattle.rite_tool.specs.declared.end.End.{End}
use Rattle.rite_tool.specs.declared.end.End.TheVariants.{Ended, Uncaught, Refused, Spent, NoMemory, InputFault, OutputFault, FileFault}

-- how a program that came out so ends `rite`, and the line for it, where it was to make at most n turns
abbrev pub end_of : Played → End
end_of (played.Ended status) = Ended status
end_of (played.Uncaught line) = Uncaught
end_of played.Spent = Spent
end_of (played.Refused cause) = Refused cause
end_of played.FileFault = FileFault
end_of played.NoMemory = NoMemory
end_of played.InputFault = InputFault
end_of played.OutputFault = OutputFault

abbrev pub text_of : ℕ → Played → List ℕ
text_of n (played.Ended status) = []
text_of n (played.Uncaught line) = line.items
text_of n played.Spent = texts.spent n
text_of n (played.Refused cause) = texts.refused cause
text_of n played.FileFault = texts.file_fault
text_of n played.NoMemory = texts.no_memory
text_of n played.InputFault = texts.input_fault
text_of n played.OutputFault = []

-- the counts of a run are told where they are wanted and the program came to an end or to its last turn
abbrev pub has_run : Played → Bool
has_run (played.Ended status) = true
has_run (played.Uncaught line) = true
has_run played.Spent = true
has_run (played.Refused cause) = false
has_run played.FileFault = false
has_run played.NoMemory = false
has_run played.InputFault = false
has_run played.OutputFault = false

abbrev pub tells_counts : Bool → Played → Bool
tells_counts wanted p = wanted && has_run p

abbrev pub counted : Bool → ℕ → ℕ → List ℕ
counted told turns peak = if told then texts.counts turns peak else []

-- what is told of a run: its counts, then the line for how it came out
abbrev pub run_text : Run → Played → ℕ → ℕ → List ℕ
run_text run p turns peak = counted (tells_counts run.counts p) turns peak ++ text_of run.steps p

-- A source was built or executed so, and so it was told.
abbrev pub IsBuilt : Disk → Disk → Stream → Stream → List ℕ → List ℕ → End → Type 0
IsBuilt before after given told source file end =
    (p : Played) × exec.IsBuilt before after source file p × IsAnswer (text_of most_turns p) (end_of p) given told end

abbrev pub IsExecuted : Disk → Disk → Stream → Stream → ℕ → List ℕ → List ℕ → End → Type 0
IsExecuted before after given told n source file end =
    (p : Played) × exec.IsExecuted before after source file p × IsAnswer (text_of n p) (end_of p) given told end

-- Or it goes the first path, or can't be read, and nothing is told.
abbrev pub Builds : Disk → Disk → Stream → Stream → List ℕ → List ℕ → Option End → Type 0
Builds before after given told source file None = IsLeft before after source × Silent given told
Builds before after given told source file (Some end) = IsBuilt before after given told source file end

abbrev pub Executes : Disk → Disk → Stream → Stream → ℕ → List ℕ → List ℕ → Option End → Type 0
Executes before after given told n source file None = IsLeft before after source × Silent given told
Executes before after given told n source file (Some end) = IsExecuted before after given told n source file end

-- a file was run so, and so it was told, with its counts where they were wanted
abbrev pub IsRun : Disk → Disk → Stream → Stream → Run → End → Type 0
IsRun before after given told run end =
    (p : Played) × (turns : ℕ) × (peak : ℕ) × exec.Runs before after run.file p
    × IsAnswer (run_text run p turns peak) (end_of p) given told end
