-- What a run says, by how it came out.
use Rattle.std.proofs.Common.{◌≡◌, ◌≢◌, ℕ, List, Result, Ok, Err, IfOk, OnOk, OnErr, IsErrOf, refl}
use Rattle.rb_base.specs.Outside.{Rose, with_more}
use Rattle.rite_code.specs.Code.{Program}
use Rattle.path_eval.specs.Seen.{output_of}
use Rattle.path_machine.specs.Run.{seen_after, IsRan, StoppedWithin}
use Rattle.path_machine.specs.declared.ran.Ran.{Ran}
use Rattle.path_machine.specs.declared.ran.RunFault.{RunFault}
use Rattle.path_machine.specs.declared.ran.RunFault.TheVariants.{OutputFault, NoMemory}
use Rattle.rb_refusal.specs.Writing.{Stream}
use Rattle.rite_tool.specs.Running.{Runs}

pub runs : (code : Program) (n : ℕ) (before after : Stream) (ran : Result Ran RunFault)
    → IfOk ran (λ r. (input : List ℕ) → IsRan r (seen_after code n input))
    → OnOk ran ((input : List ℕ) → after.taken ≡ with_more before.taken (output_of (seen_after code n input)))
    → (ran ≢ Err OutputFault → after.faults ≡ before.faults)
    → (IsErrOf ran OutputFault → Rose before.faults after.faults)
    → OnErr ran ((input : List ℕ) → StoppedWithin code n input before.taken after.taken)
    → Runs code n before after ran
runs code n before after (Ok ran) is written counted fault front = (is, written, counted (λ e. cc e))
runs code n before after (Err OutputFault) is written counted fault front = (front, fault refl)
runs code n before after (Err NoMemory) is written counted fault front = (front, counted (λ e. cc e))
