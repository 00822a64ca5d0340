-- What a run of code writes, and how it comes out.
use Rattle.std.specs.Prelude.{◌≡◌, ℕ, List, Result, Ok, Err}
use Rattle.rb_base.specs.Outside.{Rose, with_more}
use Rattle.rite_code.specs.Code.{Program}
use Rattle.path_eval.specs.Seen.{output_of}
use Rattle.path_machine.specs.Run.{seen_after, IsRan, StoppedWithin}
use Rattle.path_machine.specs.declared.ran.Ran.{Ran}
use Rattle.path_machine.specs.declared.ran.RunFault.{RunFault}
use Rattle.path_machine.specs.declared.ran.RunFault.TheVariants.{OutputFault, NoMemory}
use Rattle.rb_refusal.specs.Writing.{Stream}
use Rattle.file_maker.specs.Disk.{Disk}
use Rattle.rite_tool.specs.Told.{Silent}
use Rattle.rite_tool.specs.Making.{Built, NotMade}
use Rattle.rite_tool.specs.declared.stop.Stop.{Stop}

-- over every input the machine comes out so after n turns, and its whole output went out
abbrev pub RanWhole : Program → ℕ → Stream → Stream → Ran → Type 0
RanWhole code n before after ran =
    ((input : List ℕ) → IsRan ran (seen_after code n input))
    × ((input : List ℕ) → after.taken ≡ with_more before.taken (output_of (seen_after code n input)))
    × (after.faults ≡ before.faults)

-- a front of its output went out, over every input
abbrev pub RanInPart : Program → ℕ → Stream → Stream → Type 0
RanInPart code n before after = (input : List ℕ) → StoppedWithin code n input before.taken after.taken

-- a run of at most n turns; memory may run out in it at any time
abbrev pub Runs : Program → ℕ → Stream → Stream → Result Ran RunFault → Type 0
Runs code n before after (Ok ran) = RanWhole code n before after ran
Runs code n before after (Err OutputFault) = RanInPart code n before after × Rose before.faults after.faults
Runs code n before after (Err NoMemory) = RanInPart code n before after × (after.faults ≡ before.faults)

-- the code of a source is stored and then run, or nothing was made and nothing is run
abbrev pub Execs : Disk → Disk → Stream → Stream → ℕ → List ℕ → List ℕ → Result (Result Ran RunFault) Stop → Type 0
Execs before after given left n source file (Ok ran) =
    (code : Program) × Built before after source file code × Runs code n given left ran
Execs before after given left n source file (Err stop) = NotMade before after source file stop × Silent given left
