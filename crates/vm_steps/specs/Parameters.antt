-- ENTER: the arguments become the values of parameters.
use Rattle.std.specs.Prelude.{◌≡◌, ℕ, ◌+◌, ◌-◌, ◌%◌, ◌^◌, List, length, nat_lt, Option, Some, None, if◌then◌else◌}
use Rattle.rb_value.specs.declared.value.Value.{Value}
use Rattle.rb_value.specs.declared.value.Value.TheVariants.{Obj}
use Rattle.rb_value.specs.declared.value.ObjId.{ObjId}
use Rattle.rb_value.specs.declared.method.Shape.{Shape}
use Rattle.def_core.specs.declared.bound.Bound.{Bound}
use Rattle.def_core.specs.declared.bound.Bound.TheVariants.{Values, Wrong}
use Rattle.def_core.specs.declared.cause.Cause.{Cause}
use Rattle.def_core.specs.declared.cause.Cause.TheVariants as cause
use Rattle.def_core.specs.Bind.{Binding, least}
use Rattle.rite_code.specs.declared.operation.Parameters.{Parameters}
use Rattle.vm_parts.specs.declared.flow.Flow.{Flow}
use Rattle.vm_parts.specs.declared.flow.Flow.TheVariants.{Stays}
use Rattle.vm_parts.specs.declared.loaded.Loaded.{Loaded}
use Rattle.vm_parts.specs.Answering.{Puts}
use Rattle.vm_parts.specs.Arguments.{block_value}
use Rattle.vm_parts.specs.Below.{Held}
use Rattle.vm_parts.specs.Below.heap_rows.{bound}
use Rattle.vm_parts.specs.Below.frames.{Frame}
use Rattle.vm_parts.specs.Below.frames.exits as exits
use Rattle.vm_parts.specs.Below.frames.opening as opening
use Rattle.vm_parts.specs.Beside.{Beside, next_register, with_seen, written}
use Rattle.vm_steps.specs.Answering.{with_heap, Fails}

-- the shape of parameters
abbrev pub shape_of : Parameters → Shape
shape_of p = record { required = p.required; optional = p.optional; rest = p.rest; post = p.post }

-- The registers from 1 on have the values, and the next one the block; the frame has no arguments then, and goes on
-- behind the jumps of so many optional parameters.

-- a count as far as two bytes go
unfoldable pub few : ℕ → ℕ
few n = if nat_lt n (2 ^ 16) then n else 2 ^ 16 - 1

abbrev pub put_in : Beside → Frame → List Value → Beside
put_in b f vs = written (with_seen b (exits.parameters_set b.seen f vs)) f (next_register (few (length vs)))
    (block_value f.block)

abbrev pub behind_jumps : Frame → ℕ → Frame
behind_jumps f filled = record f { given = 0; index = (f.index + (1 + filled)) % 2 ^ 32 }

-- why so many arguments don't fit
abbrev pub wrong_count : Shape → ℕ → Cause
wrong_count s given = cause.WrongCount given (least s) (if s.rest then None else Some (least s + s.optional))

abbrev pub arguments : Beside → Frame → List Value
arguments b f = opening.arguments_of b.seen f

abbrev pub binding : Beside → Frame → Parameters → Binding
binding b f p = bound b.heap.store (shape_of p) (arguments b f) f.binds

abbrev pub EntersWith : Loaded → Beside → Frame → Parameters → Bound → Flow → Frame → Beside → Type 0
EntersWith c b f p (Values list filled) flow g after =
    (flow ≡ Stays) × (g ≡ behind_jumps f filled) × (after ≡ put_in b f list)
EntersWith c b f p (Wrong given) flow g after = Fails c b f (wrong_count (shape_of p) given) 0 flow g after

-- how often classes changed is not told
pub record Enters (c : Loaded) (b : Beside) (f : Frame) (p : Parameters) (flow : Flow) (g : Frame) (after : Beside)
    : Type 0 where
  pub heap : Held
  pub bound_in : heap.store ≡ (binding b f p).store
  pub enters : EntersWith c (with_heap b heap) f p (binding b f p).bound flow g after

-- BLKPUSH

abbrev pub PushesOr : Option ObjId → Loaded → Beside → Frame → ℕ → Flow → Frame → Beside → Type 0
PushesOr None c b f a flow g after = Fails c b f cause.NoBlockToYield a flow g after
PushesOr (Some p) c b f a flow g after = Puts b f (Obj p) a flow g after

abbrev pub PushesBlock : Loaded → Beside → Frame → ℕ → Flow → Frame → Beside → Type 0
PushesBlock c b f a flow g after = PushesOr f.yields c b f a flow g after
