-- What a plan of an iteration does: the iteration waits, and what it wants is done.
use Rattle.std.specs.Prelude.{◌≡◌, ℕ, ◌+◌, List, Bool, Option, Some, None}
use Rattle.rb_value.specs.declared.value.Value.{Value}
use Rattle.rb_value.specs.declared.value.Value.TheVariants.{Nil}
use Rattle.rb_value.specs.declared.value.ObjId.{ObjId}
use Rattle.def_core.specs.declared.cause.Cause.{Cause}
use Rattle.def_core.specs.declared.cause.Cause.TheVariants as cause
use Rattle.def_core.specs.declared.found.Found.{Found}
use Rattle.def_core.specs.Store.{object_at}
use Rattle.def_plans.specs.Plan.{plan_of}
use Rattle.core_calls.specs.declared.plan.Plan.{Plan}
use Rattle.core_calls.specs.declared.plan.Plan.TheVariants as plan
use Rattle.vm_parts.specs.Below.frames.calls.{Iteration}
use Rattle.vm_parts.specs.Below.frames.calls.plans.{Starts, GoesOn}
use Rattle.vm_parts.specs.Below.frames.calls.{stage_of}
use Rattle.vm_parts.specs.Below.switching as switching
use Rattle.vm_parts.specs.Below.{Resumed}
use Rattle.vm_parts.specs.Below.resumed as resumed
use Rattle.vm_parts.specs.Answering.{Given}
use Rattle.vm_parts.specs.Below.{Held}
use Rattle.vm_parts.specs.Below.views as views
use Rattle.vm_parts.specs.Below.frames.{Arguments, Begun, Frame, Level}
use Rattle.vm_parts.specs.Below.frames.level as level
use Rattle.vm_parts.specs.Below.frames.levels as levels
use Rattle.vm_parts.specs.Below.frames.opening as opening
use Rattle.vm_parts.specs.Below.frames.calls.{Entry}
use Rattle.vm_parts.specs.Below.frames.calls.called.calls as rows
use Rattle.vm_parts.specs.Below.frames.calls.entering.{EntersProc, EntersUnchecked, sent}
use Rattle.vm_parts.specs.declared.flow.Flow.{Flow}
use Rattle.vm_parts.specs.declared.flow.Flow.TheVariants.{Stays}
use Rattle.vm_parts.specs.declared.flow.Handed.TheVariants as handing
use Rattle.vm_parts.specs.declared.flow.Step.{Step}
use Rattle.vm_parts.specs.declared.flow.Step.TheVariants as step
use Rattle.vm_parts.specs.declared.known.KnownCalls.{KnownCalls}
use Rattle.vm_parts.specs.declared.known.Usual.{Usual}
use Rattle.vm_parts.specs.declared.known.Usual.TheVariants as usual
use Rattle.vm_parts.specs.declared.loaded.Loaded.{Loaded}
use Rattle.vm_parts.specs.Beside.{Beside, with_seen, with_heap}
use Rattle.vm_parts.specs.Calling.{When, CallsCallee, EntersAbove, EntersFirst, Fails, arguments_gone}
use Rattle.vm_parts.specs.Finding.{class_of, found_for}
use Rattle.vm_parts.specs.Known as known
use Rattle.vm_parts.specs.Leaving.{HandedOut, RaisedOut, handed_of, is_resumed, received, received_flow}
use Rattle.vm_iterations.specs.declared.iterating.Sent.{Sent}

-- an iteration of that number, which has no answer yet
abbrev pub waiting : ℕ → Iteration → Level
waiting n then = level.Iteration (record { number = n; state = then; answer = Nil })

-- a level waits
abbrev pub waits : Beside → Level → Beside
waits b l = with_seen b (levels.pushed b.seen l)

-- values stand behind all registers, as arguments

abbrev pub kept : Beside → List Value → Beside
kept b args = with_seen b (opening.values_kept b.seen args)

abbrev pub arguments : Beside → List Value → Arguments
arguments b args = opening.all_arguments b.seen args

-- The innermost level that waits fails by a cause, or is given what a resume or a yield hands over.

pub record FailsOut (c : Loaded) (b : Beside) (e : Cause) (flow : Flow) (after : Beside) : Type 0 where
  pub given : Given
  pub heap : Held
  pub fails : Fails b.heap e given heap
  pub raised : HandedOut c.code (with_heap b heap) (handed_of given) flow after

abbrev pub HandsOver : Loaded → Beside → List Value → Flow → Beside → Type 0
HandsOver c b args flow after = HandedOut c.code (with_heap b (rows.as_one b.heap args).1)
    (handing.Value (rows.as_one b.heap args).0) flow after

-- A method is called by its name.

-- what is remembered of it
abbrev pub remembered : Beside → Sent → Option Usual
remembered b s = known.usual_in
    (known.known (known.of b.known) b.heap.changes (class_of b.heap.store s.receiver) s.name)

-- a core method that calls no others gives at once
abbrev pub CallsUsual : Option Usual → Beside → Sent → Option Given → Held → Type 0
CallsUsual (Some (usual.Core number r)) b s given after =
    rows.CallsAtOnce r number b.heap s.receiver s.args.items s.block given after
CallsUsual _ b s given after = (given ≡ None) × (after ≡ b.heap)

-- where it may be private
abbrev pub GivenAtOnce : Beside → Sent → Option Given → Held → Type 0
GivenAtOnce b s given after = When s.public ((given ≡ None) × (after ≡ b.heap))
    (CallsUsual (remembered b s) b s given after)

-- what is found is remembered
abbrev pub noted : Beside → Sent → Option Found → known.Calls
noted b s None = known.of b.known
noted b s (Some f) = known.noted (known.of b.known) b.heap.changes (class_of b.heap.store s.receiver) s.name f

abbrev pub found : Beside → Sent → Option Found
found b s = found_for b.heap.store s.receiver s.name

-- what the call comes to is entered above the level that waits
pub record EntersSent (c : Loaded) (b : Beside) (f : Frame) (l : Level) (s : Sent) (flow : Flow) (g : Frame)
    (after : Beside) : Type 0 where
  pub calls : KnownCalls
  pub entry : Entry
  pub heap : Held
  pub remembers : known.of calls ≡ noted b s (found b s)
  pub comes : EntersUnchecked (found b s) s.public s.name b.heap
      (sent s.receiver s.args.items s.block (b.activations + 1)) entry heap
  pub enters : EntersAbove c (waits (record (kept b s.args.items) { heap = heap; known = calls }) l) f entry
      (arguments b s.args.items) flow g after

abbrev pub SentOr : Option Given → Loaded → Beside → Frame → Level → Sent → Flow → Frame → Beside → Type 0
SentOr None c b f l s flow g after = EntersSent c b f l s flow g after
SentOr (Some given) c b f l s flow g after = (g ≡ f) × HandedOut c.code (waits b l) (handed_of given) flow after

pub record Sends (c : Loaded) (b : Beside) (f : Frame) (l : Level) (s : Sent) (flow : Flow) (g : Frame)
    (after : Beside) : Type 0 where
  pub given : Option Given
  pub heap : Held
  pub at_once : GivenAtOnce b s given heap
  pub done : SentOr given c (with_heap b heap) f l s flow g after

-- A Proc is called.
abbrev pub Calls : Loaded → Beside → Frame → Level → ObjId → List Value → Option ObjId → Flow → Frame → Beside → Type 0
Calls c b f l callee args block flow g after =
    CallsCallee c (waits (kept b args) l) f callee block (arguments b args) flow g after

-- A fiber is resumed.

-- the Proc of a fiber, whose line runs, is entered
pub record BeginsFiber (c : Loaded) (b : Beside) (f : Frame) (block : ObjId) (args : List Value) (flow : Flow)
    (g : Frame) (after : Beside) : Type 0 where
  pub entry : Entry
  pub heap : Held
  pub comes : EntersProc block b.heap (sent Nil args None (b.activations + 1)) entry heap
  pub enters : EntersFirst c (with_heap (kept b args) heap) f entry (arguments b args) flow g after

-- the Proc of a fiber, and whether it has ended
abbrev pub fiber : Beside → ObjId → Option (ObjId × Bool)
fiber b id = views.fiber_of (object_at b.heap.store.objects id).kind

abbrev pub resume_answer : Beside → ObjId → Resumed
resume_answer b id = switching.answer_to b.fibers id (fiber b id)

-- the line of the fiber runs
abbrev pub resumed_in : Beside → ObjId → Beside
resumed_in b id = record b {
  seen = switching.lines_resumed b.seen b.fibers id (fiber b id);
  fibers = switching.resumed b.fibers (switching.next_line b.seen) id (fiber b id);
}

abbrev pub ResumesTo : Resumed → Loaded → Beside → Frame → List Value → Flow → Frame → Beside → Type 0
ResumesTo (resumed.Refused e) c b f args flow g after = (g ≡ f) × FailsOut c b e flow after
ResumesTo (resumed.Begins block) c b f args flow g after = BeginsFiber c b f block args flow g after
ResumesTo resumed.Continues c b f args flow g after = (g ≡ f) × HandsOver c b args flow after

abbrev pub ResumesFrom : Loaded → Beside → Frame → ObjId → List Value → Flow → Frame → Beside → Type 0
ResumesFrom c b f id args flow g after = ResumesTo (resume_answer b id) c (resumed_in b id) f args flow g after

abbrev pub Resumes : Loaded → Beside → Frame → Level → ObjId → List Value → Flow → Frame → Beside → Type 0
Resumes c b f l id args flow g after = ResumesFrom c (waits b l) f id args flow g after

-- A fiber yields to the one that resumed it.

abbrev pub yielded_in : Beside → Beside
yielded_in b = record b {
  seen = switching.lines_yielded b.seen b.fibers (switching.resumer_of b.fibers);
  fibers = switching.yielded b.fibers (switching.resumer_of b.fibers);
}

abbrev pub YieldsFrom : Loaded → Beside → List Value → Flow → Beside → Type 0
YieldsFrom c b args flow after = When (is_resumed b) (HandsOver c (yielded_in b) args flow after)
    (FailsOut c (yielded_in b) cause.RootYield flow after)

abbrev pub Yields : Loaded → Beside → Level → List Value → Flow → Beside → Type 0
Yields c b l args flow after = YieldsFrom c (waits b l) args flow after

-- What a plan does that neither reads nor writes, of an iteration of that number.

abbrev pub Carries : Plan Iteration → Loaded → Beside → Frame → ℕ → Flow → Frame → Beside → Type 0
Carries (plan.Finishes v) c b f n flow g after =
    (g ≡ f) × ((flow ≡ received_flow b v) × (after ≡ received b v))
Carries (plan.Fails e) c b f n flow g after = (g ≡ f) × FailsOut c b e flow after
Carries (plan.Raises e) c b f n flow g after = (g ≡ f) × RaisedOut c.code b e flow after
Carries (plan.Sends then recv name args block public) c b f n flow g after = Sends c b f (waiting n then)
    (record { receiver = recv; name = name; args = args; block = block; public = public }) flow g after
Carries (plan.Calls then callee args block) c b f n flow g after =
    Calls c b f (waiting n then) callee args.items block flow g after
Carries (plan.Resumes then id args) c b f n flow g after =
    Resumes c b f (waiting n then) id args.items flow g after
Carries (plan.Yields then args) c b f n flow g after =
    (g ≡ f) × Yields c b (waiting n then) args.items flow after
Carries _ c b f n flow g after = (flow ≡ Stays) × ((g ≡ f) × (after ≡ b))

-- What a plan does: an iteration that writes or reads waits for that.

abbrev pub Goes : Step → (Flow → Type 0) → Type 0
Goes (step.Goes flow) Known = Known flow
Goes (step.Writes bytes) Known = ⊥
Goes step.Reads Known = ⊥

abbrev pub Follows : Plan Iteration → Loaded → Beside → Frame → ℕ → Step → Frame → Beside → Type 0
Follows (plan.Writes then bytes) c b f n next g after =
    (next ≡ step.Writes bytes) × ((g ≡ f) × (after ≡ waits b (waiting n then)))
Follows (plan.Reads then) c b f n next g after =
    (next ≡ step.Reads) × ((g ≡ f) × (after ≡ waits b (waiting n then)))
Follows other c b f n next g after = Goes next (λ flow. Carries other c b f n flow g after)

-- The first plan of an iteration, and the next one by its answer.

pub record Begins (c : Loaded) (b : Beside) (f : Frame) (i : Begun) (next : Step) (g : Frame) (after : Beside)
    : Type 0 where
  pub plan : Plan Iteration
  pub heap : Held
  pub starts : Starts i.row b.heap i.receiver (opening.given b.seen i.arguments) i.block
      (record { plan = plan_of stage_of plan; held = heap })
  pub follows : Follows plan c (with_heap (arguments_gone b i.arguments) heap) f i.number next g after

pub record Iterates (c : Loaded) (b : Beside) (f : Frame) (number : ℕ) (state : Iteration) (answer : Value)
    (next : Step) (g : Frame) (after : Beside) : Type 0 where
  pub plan : Plan Iteration
  pub heap : Held
  pub goes_on : GoesOn b.heap (stage_of state) answer (record { plan = plan_of stage_of plan; held = heap })
  pub follows : Follows plan c (with_heap b heap) f number next g after
