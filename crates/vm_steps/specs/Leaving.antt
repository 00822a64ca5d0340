-- Instructions that leave.
use Rattle.std.specs.Prelude.{◌≡◌, ℕ, nat_eq, Bool, ◌||◌, Option, Some, None}
use Rattle.rb_value.specs.declared.value.Value.{Value}
use Rattle.rb_value.specs.declared.exit.Exit.{Exit}
use Rattle.rb_value.specs.declared.exit.Exit.TheVariants.{Return, Break, Jump}
use Rattle.def_core.specs.declared.cause.Cause.TheVariants as cause
use Rattle.vm_parts.specs.declared.flow.Flow.{Flow}
use Rattle.vm_parts.specs.declared.flow.Flow.TheVariants.{Stays}
use Rattle.vm_parts.specs.declared.loaded.Loaded.{Loaded}
use Rattle.vm_parts.specs.Answering.{AnswersBy}
use Rattle.vm_parts.specs.Below.{Held}
use Rattle.vm_parts.specs.Below.defined.{is_of}
use Rattle.vm_parts.specs.Below.frames.{Frame}
use Rattle.vm_parts.specs.Below.frames.calls.blocks as blocks
use Rattle.vm_parts.specs.Below.frames.exits as exits
use Rattle.vm_parts.specs.Below.frames.landings as landings
use Rattle.vm_parts.specs.Below.frames.levels as levels
use Rattle.vm_parts.specs.Below.frames.opening as opening
use Rattle.vm_parts.specs.Below.operands as operands
use Rattle.vm_parts.specs.Beside.{Beside, value_at, with_seen}
use Rattle.vm_parts.specs.Calling.{When}
use Rattle.vm_parts.specs.Code.{catches}
use Rattle.vm_parts.specs.Leaving.{flow_here, frame_here, received_here}
use Rattle.vm_steps.specs.Answering.{Throws, Fails}

-- RETURN

-- the frame is left
abbrev pub left : Beside → Frame → Held → Beside
left b f h = record b { heap = h; seen = opening.left b.seen f }

-- without handlers in its body; how often classes changed is not told
pub record Left (b : Beside) (f : Frame) (v : Value) (flow : Flow) (g : Frame) (after : Beside) : Type 0 where
  pub heap : Held
  pub closed : heap.store ≡ landings.store_left b.heap.store b.seen
  pub flows : flow ≡ flow_here (left b f heap) v
  pub frame : g ≡ frame_here (left b f heap) f
  pub received : after ≡ received_here (left b f heap) f v

abbrev pub Returns : Loaded → Beside → Frame → ℕ → Flow → Frame → Beside → Type 0
Returns c b f a flow g after = When (catches c f.body)
    (Throws c b f (Return f.number (value_at b f a)) flow g after) (Left b f (value_at b f a) flow g after)

-- RETURN_BLK and BREAK

-- an activation is under way in the fiber that runs
abbrev pub is_under_way : Beside → Frame → ℕ → Bool
is_under_way b f n = nat_eq n f.number || levels.waits_for b.seen.line n

abbrev pub home : Beside → ℕ
home b = (opening.activation_in b.seen).home

abbrev pub ReturnsHome : Loaded → Beside → Frame → ℕ → Flow → Frame → Beside → Type 0
ReturnsHome c b f a flow g after = When (is_under_way b f (home b))
    (Throws c b f (Return (home b) (value_at b f a)) flow g after) (Fails c b f cause.UnexpectedReturn 0 flow g after)

abbrev pub BreaksTo : Option ℕ → Loaded → Beside → Frame → ℕ → Flow → Frame → Beside → Type 0
BreaksTo None c b f a flow g after = Fails c b f cause.BreakFromProc 0 flow g after
BreaksTo (Some t) c b f a flow g after = When (is_under_way b f t)
    (Throws c b f (Break t (value_at b f a)) flow g after) (Fails c b f cause.BreakFromProc 0 flow g after)

abbrev pub Breaks : Loaded → Beside → Frame → ℕ → Flow → Frame → Beside → Type 0
Breaks c b f a flow g after =
    BreaksTo (blocks.break_target b.heap.store f.number (opening.activation_in b.seen).runs) c b f a flow g after

-- EXCEPT and RAISEIF

abbrev pub TakesExit : Beside → Frame → ℕ → Flow → Frame → Beside → Type 0
TakesExit b f a flow g after = (flow ≡ Stays) × (g ≡ levels.behind f) × (after ≡ with_seen b (exits.taken b.seen f a))

abbrev pub GoesOnWith : Option Exit → Loaded → Beside → Frame → Flow → Frame → Beside → Type 0
GoesOnWith None c b f flow g after = (flow ≡ Stays) × (g ≡ levels.behind f) × (after ≡ b)
GoesOnWith (Some x) c b f flow g after = Throws c b f x flow g after

abbrev pub GoesOnIf : Loaded → Beside → Frame → ℕ → Flow → Frame → Beside → Type 0
GoesOnIf c b f a flow g after = GoesOnWith (exits.kept b.seen f a) c b f flow g after

-- RESCUE
abbrev pub Rescues : Loaded → Beside → Frame → ℕ → ℕ → Flow → Frame → Beside → Type 0
Rescues c b f a k flow g after = AnswersBy c b f (λ w. is_of w (operands.own b.heap.store (value_at b f a))
    (operands.own b.heap.store (value_at b f k))) k flow g after

-- JMPUW
abbrev pub JumpsOut : Loaded → Beside → Frame → ℕ → Flow → Frame → Beside → Type 0
JumpsOut c b f to flow g after = Throws c b f (Jump f.number to) flow g after
