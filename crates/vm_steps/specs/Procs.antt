-- LAMBDA and BLOCK: Procs of the bodies inside.
use Rattle.std.specs.Prelude.{ℕ, List, slice_get, Bool, false, Option, Some, None}
use Rattle.rb_value.specs.declared.value.Value.TheVariants.{Obj}
use Rattle.rb_value.specs.declared.method.Shape.{Shape}
use Rattle.rb_value.specs.declared.procs.ProcContents.{ProcContents}
use Rattle.rb_value.specs.declared.procs.Sending.TheVariants.{Unsent}
use Rattle.def_core.specs.Store.{next_number}
use Rattle.code_instructions.specs.declared.instruction.Instruction.{Instruction}
use Rattle.code_instructions.specs.declared.instruction.Instruction.TheVariants as instruction
use Rattle.vm_parts.specs.declared.flow.Flow.{Flow}
use Rattle.vm_parts.specs.declared.loaded.Loaded.{Loaded}
use Rattle.vm_parts.specs.Answering.{Puts}
use Rattle.vm_parts.specs.Below.frames.{Frame}
use Rattle.vm_parts.specs.Below.frames.calls.{Activation}
use Rattle.vm_parts.specs.Below.frames.environments as environments
use Rattle.vm_parts.specs.Below.frames.opening as opening
use Rattle.vm_parts.specs.Below.made as made
use Rattle.vm_parts.specs.Beside.{Beside, with_seen}
use Rattle.vm_parts.specs.Code.{instructions}
use Rattle.vm_steps.specs.Parameters.{shape_of}

-- The shape of a body's parameters, which its first instruction tells.

abbrev pub no_parameters : Shape
no_parameters = record { required = 0; optional = 0; rest = false; post = 0 }

abbrev pub shape_by : Option Instruction → Shape
shape_by None = no_parameters
shape_by (Some (instruction.Enter p)) = shape_of p
shape_by (Some _) = no_parameters

abbrev pub shape_of_body : Loaded → ℕ → Shape
shape_of_body c body = shape_by (slice_get (instructions c.code body) 0)

-- a Proc of a body, with what it keeps of the activation that makes it
abbrev pub contents : Loaded → Activation → List ℕ → ℕ → Bool → ProcContents
contents c running scopes body lambda = record {
  code = body;
  shape = shape_of_body c body;
  scopes = scopes;
  receiver = running.receiver;
  owner = running.owner;
  name = running.name;
  classes = running.classes;
  home = running.home;
  sending = Unsent;
  block = running.block;
  lambda = lambda;
}

-- the registers of the frame are captured
abbrev pub captured : Beside → Frame → Beside
captured b f = with_seen b (environments.captured b.seen f)

abbrev pub proc_here : Loaded → Beside → Frame → ℕ → Bool → ProcContents
proc_here c b f body lambda =
    contents c (opening.activation_in b.seen) (environments.lists_around b.seen f) body lambda

abbrev pub with_proc : Beside → ProcContents → Beside
with_proc b p = record b { heap = made.with_proc b.heap p }

abbrev pub MakesIn : Loaded → Beside → Frame → ℕ → ℕ → Bool → Flow → Frame → Beside → Type 0
MakesIn c b f a body lambda flow g after =
    Puts (with_proc b (proc_here c b f body lambda)) f (Obj (next_number b.heap.store)) a flow g after

abbrev pub Makes : Loaded → Beside → Frame → ℕ → ℕ → Bool → Flow → Frame → Beside → Type 0
Makes c b f a body lambda flow g after =
    MakesIn c (captured b f) (environments.capturing b.seen f) a body lambda flow g after
