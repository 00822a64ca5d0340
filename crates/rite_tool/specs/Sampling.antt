-- What the command sample does, and the line that it writes.
use Rattle.std.specs.Prelude.{◌≡◌, ◌⊎◌, ℕ, ◌-◌, List, [], ◌∷◌, ◌++◌, length, take, drop, codes, decimal, bytes_eq, nat_eq, if◌then◌else◌, Some, MatchOption, Result, Ok, Err}
use Rattle.sample_source.specs.Sample.{source}
use Rattle.rite_code.specs.Code.{Program}
use Rattle.code_generator.specs.Implements.{Implements}
use Rattle.path_eval.specs.Seen.{output_of}
use Rattle.path_machine.specs.Run.{seen_after, IsRan}
use Rattle.path_machine.specs.declared.ran.Ran.{Ran}
use Rattle.path_machine.specs.declared.ran.Ran.TheVariants as rans
use Rattle.path_machine.specs.declared.ran.RunFault.{RunFault}
use Rattle.path_machine.specs.declared.ran.RunFault.TheVariants as run_faults
use Rattle.rb_compile.specs.Language.{program_of}
use Rattle.rb_compile.specs.Compiled.{Refuses}
use Rattle.rb_compile.specs.Refusal.{refusal_of}
use Rattle.rb_compile.specs.declared.error.CompileError.{CompileError}
use Rattle.rb_exec.specs.InMemory.{IsTextRun, GoesFirst}
use Rattle.rb_exec.specs.declared.running.Played.{Played}
use Rattle.rb_exec.specs.declared.running.Played.TheVariants as played
use Rattle.rb_refusal.specs.Writing.{Stream}
use Rattle.rite_tool.specs.General as general
use Rattle.rite_tool.specs.Reporting as reporting
use Rattle.rite_tool.specs.Texts.{line}
use Rattle.rite_tool.specs.Told.{Silent}
use Rattle.rite_tool.specs.Words.{most_turns}
use Rattle.rite_tool.specs.Writing.{IsAnswer}
use Rattle.rite_tool.specs.declared.end.End.{End}
use Rattle.rite_tool.specs.declared.end.End.TheVariants as ends
use Rattle.rite_tool.specs.declared.stop.Stop.{Stop}
use Rattle.rite_tool.specs.declared.stop.Stop.TheVariants as stops

-- a text without the newline that it ends with
abbrev pub without_newline : List ℕ → List ℕ
without_newline text =
    if bytes_eq (drop (length text - 1) text) (10 ∷ []) then take (length text - 1) text else text

-- what is behind the last newline in the rest of a text, or else the line that was begun before
abbrev pub line_at_end : List ℕ → List ℕ → List ℕ
line_at_end begun [] = begun
line_at_end begun (c ∷ cs) = if nat_eq c 10 then line_at_end cs cs else line_at_end begun cs

-- the last line of an output, without its newline
abbrev pub last_line : List ℕ → List ℕ
last_line output = line_at_end (without_newline output) (without_newline output)

-- the line of a sample of that size, whose source has so many bytes, and which ended with that status
abbrev pub sample_text : ℕ → ℕ → ℕ → List ℕ → List ℕ
sample_text size bytes status last = line
    (codes "sample " ++ decimal size ++ codes ": source " ++ decimal bytes ++ codes " bytes, status " ++ decimal status
    ++ codes ", last " ++ last)

-- both streams that are written to
pub record Streams : Type 0 where
  pub out : Stream
  pub err : Stream

-- The sample with that source ended with the status, and wrote that: its line is what goes out, and nothing else is
-- told.
abbrev pub Shows : ℕ → List ℕ → List ℕ → ℕ → Streams → Streams → End → Type 0
Shows size text output status before after end =
    IsAnswer (sample_text size (length text) status (last_line output)) (ends.Ended 0) before.out after.out end
    × Silent before.err after.err

-- it came out otherwise, which is told, and nothing goes out
abbrev pub Tells : List ℕ → End → Streams → Streams → End → Type 0
Tells text meant before after end = IsAnswer text meant before.err after.err end × Silent before.out after.out

-- so it came out on the second path
abbrev pub TellsPlayed : Played → Streams → Streams → End → Type 0
TellsPlayed p before after end = Tells (general.text_of most_turns p) (general.end_of p) before after end

abbrev pub ShowsPlayed : ℕ → List ℕ → List ℕ → Played → Streams → Streams → End → Type 0
ShowsPlayed size text output (played.Ended status) before after end = Shows size text output status before after end
ShowsPlayed size text output (played.Uncaught line) before after end =
    TellsPlayed (played.Uncaught line) before after end
ShowsPlayed size text output played.Spent before after end = TellsPlayed played.Spent before after end
ShowsPlayed size text output (played.Refused cause) before after end =
    TellsPlayed (played.Refused cause) before after end
ShowsPlayed size text output played.FileFault before after end = TellsPlayed played.FileFault before after end
ShowsPlayed size text output played.NoMemory before after end = TellsPlayed played.NoMemory before after end
ShowsPlayed size text output played.InputFault before after end = TellsPlayed played.InputFault before after end
ShowsPlayed size text output played.OutputFault before after end = TellsPlayed played.OutputFault before after end

-- code that implements the text comes out so, over every input, and writes that
abbrev pub IsRunOf : List ℕ → List ℕ → Ran → Type 0
IsRunOf text output ran =
    (code : Program) × MatchOption (program_of text) ⊥ (Implements code)
    × ((input : List ℕ) → IsRan ran (seen_after code most_turns input))
    × ((input : List ℕ) → output ≡ output_of (seen_after code most_turns input))

-- A text of the first path was run so in memory, or it is refused for a cause of the compiler. But for memory that runs
-- out there is no other fault.
abbrev pub RunsFirst : List ℕ → List ℕ → Result (Result Ran RunFault) Stop → Type 0
RunsFirst text output (Ok (Ok ran)) = IsRunOf text output ran
RunsFirst text output (Ok (Err run_faults.OutputFault)) = ⊥
RunsFirst text output (Ok (Err run_faults.NoMemory)) = Unit {0}
RunsFirst text output (Err (stops.Refused cause)) =
    (e : CompileError) × Refuses text e × (refusal_of e ≡ Some cause)
RunsFirst text output (Err stops.FileFault) = ⊥
RunsFirst text output (Err stops.NoMemory) = Unit {0}

-- so it came out on the first path
abbrev pub TellsRan : Result (Result Ran RunFault) Stop → Streams → Streams → End → Type 0
TellsRan ran before after end =
    Tells (reporting.text_of (reporting.of_exec most_turns ran)) (reporting.end_of (reporting.of_exec most_turns ran))
    before after end

abbrev pub ShowsRan : ℕ → List ℕ → List ℕ → Result (Result Ran RunFault) Stop → Streams → Streams → End → Type 0
ShowsRan size text output (Ok (Ok (rans.Ended status))) before after end =
    Shows size text output status before after end
ShowsRan size text output (Ok (Ok (rans.Uncaught f))) before after end =
    TellsRan (Ok (Ok (rans.Uncaught f))) before after end
ShowsRan size text output (Ok (Ok rans.Spent)) before after end = TellsRan (Ok (Ok rans.Spent)) before after end
ShowsRan size text output (Ok (Err run_faults.OutputFault)) before after end =
    TellsRan (Ok (Err run_faults.OutputFault)) before after end
ShowsRan size text output (Ok (Err run_faults.NoMemory)) before after end =
    TellsRan (Ok (Err run_faults.NoMemory)) before after end
ShowsRan size text output (Err stop) before after end = TellsRan (Err stop) before after end

-- a text was tried so on the second path
abbrev pub TriesSecond : ℕ → List ℕ → Streams → Streams → End → Type 0
TriesSecond size text before after end =
    (p : Played) × (output : List ℕ) × IsTextRun text p × ShowsPlayed size text output p before after end

-- or, where it goes the first path, so on that
abbrev pub TriesFirst : ℕ → List ℕ → Streams → Streams → End → Type 0
TriesFirst size text before after end =
    (ran : Result (Result Ran RunFault) Stop) × (output : List ℕ) × GoesFirst text × RunsFirst text output ran
    × ShowsRan size text output ran before after end

-- a text was tried so, on the path that it goes
abbrev pub Tries : ℕ → List ℕ → Streams → Streams → End → Type 0
Tries size text before after end = TriesSecond size text before after end ⊎ TriesFirst size text before after end

-- the sample of that size was tried so
abbrev pub Samples : ℕ → Streams → Streams → End → Type 0
Samples size before after end = Tries size (source size) before after end
