-- How the code of a text comes out that ran.
use Rattle.std.proofs.Common.{ℕ, List, Vec}
use Rattle.std.specs.declared.alloc.Global.{Global}
use Rattle.rite_code.specs.Code.{Program}
use Rattle.file_maker.specs.Making.{IsMade}
use Rattle.file_maker.specs.declared.made.Made.TheVariants.{File}
use Rattle.rb_exec.specs.InMemory.{IsPlayed, IsTextRun}
use Rattle.rb_exec.specs.declared.running.Played.{Played}
use Rattle.rb_exec.specs.declared.running.Played.TheVariants.{Ended, Uncaught, Spent, Refused, FileFault, NoMemory, InputFault, OutputFault}

pub ran : (text : List ℕ) (bytes : Vec ℕ Global) (code : Program) (p : Played) → IsPlayed p
    → IsMade text (File bytes code) → IsTextRun text p
ran text bytes code (Ended status) is made = (bytes, code, made)
ran text bytes code (Uncaught line) is made = (bytes, code, made)
ran text bytes code Spent is made = (bytes, code, made)
ran text bytes code (Refused cause) is made = absurd is
ran text bytes code FileFault is made = absurd is
ran text bytes code NoMemory is made = tt
ran text bytes code InputFault is made = absurd is
ran text bytes code OutputFault is made = absurd is
