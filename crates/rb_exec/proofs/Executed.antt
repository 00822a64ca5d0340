-- How a run comes out over a file that was stored.
use Rattle.std.proofs.Common.{ℕ, List, inr}
use Rattle.file_maker.specs.Disk.{Disk}
use Rattle.rb_exec.specs.Built.{HasFile, IsRun, IsExecuted}
use Rattle.rb_exec.specs.declared.running.Played.{Played}
use Rattle.rb_exec.specs.declared.running.Played.TheVariants.{Ended, Uncaught, Spent, Refused, FileFault, NoMemory, InputFault, OutputFault}

pub ran : (before after : Disk) (source file : List ℕ) (p : Played) → IsRun p → HasFile before after source file
    → IsExecuted before after source file p
ran before after source file (Refused cause) is has = absurd is
ran before after source file FileFault is has = absurd is
ran before after source file NoMemory is has = inr has
ran before after source file (Ended status) is has = has
ran before after source file (Uncaught line) is has = has
ran before after source file Spent is has = has
ran before after source file InputFault is has = has
ran before after source file OutputFault is has = has
