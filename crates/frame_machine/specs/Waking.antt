-- Turns of the innermost level that waits, where it is an iteration.
use Rattle.std.specs.Prelude.{◌≡◌, ℕ, ◌-◌, length, slice_set, Option, Some, None}
use Rattle.rb_value.specs.declared.value.Value.{Value}
use Rattle.rb_value.specs.declared.value.ObjId.{ObjId}
use Rattle.core_calls.specs.declared.beat.Beat.{Beat}
use Rattle.iter_items.specs.declared.state.ItemsState.TheVariants as items_state
use Rattle.iter_enumerators.specs.declared.state.EnumeratorState.{EnumeratorState}
use Rattle.vm_acts.specs.Parts.below.frames.calls.{Iteration}
use Rattle.vm_acts.specs.Parts.below.frames.calls.iteration as state
use Rattle.vm_acts.specs.Parts.below.frames.calls.plans.{Beats}
use Rattle.vm_acts.specs.Parts.below.{Held}
use Rattle.vm_acts.specs.Parts.below.views as views
use Rattle.vm_acts.specs.Parts.below.frames.{Begun, Frame, Level}
use Rattle.vm_acts.specs.Parts.below.frames.level as level
use Rattle.vm_acts.specs.Parts.below.frames.levels as levels
use Rattle.vm_acts.specs.Parts.{Flow}
use Rattle.vm_acts.specs.Parts.flow.{Stays, Ends}
use Rattle.vm_acts.specs.Parts.{Step}
use Rattle.vm_acts.specs.Parts.step as step
use Rattle.vm_acts.specs.Parts.{Loaded}
use Rattle.vm_acts.specs.Parts.beside.{Beside, with_seen, with_heap}
use Rattle.vm_acts.specs.Parts.calling.{CallsWith}
use Rattle.vm_acts.specs.Parts.leaving.{RaisedOut, next_level}
use Rattle.frame_machine.specs.declared.waking.Ready.{Ready}
use Rattle.frame_machine.specs.declared.waking.Ready.TheVariants as ready
use Rattle.vm_iterations.specs.Beginning.{BeginsInPlace, Flows, ReceivesHere}
use Rattle.vm_iterations.specs.Ending.{popped, EndsEnumerating}
use Rattle.vm_iterations.specs.Following.{Begins, Iterates}

-- How an iteration ends that calls nothing any more.

abbrev pub ready_by : Iteration → Value → Option Ready
ready_by state.Handing answer = Some (ready.Gives answer)
ready_by (state.Giving v) answer = Some (ready.Gives v)
ready_by state.Raising answer = Some (ready.Raises answer)
ready_by (state.Items (items_state.Enumerates s)) answer = Some (ready.Enumerates s answer)
ready_by _ answer = None

-- the innermost level that waits, where it is an iteration
abbrev pub iteration_in : Beside → Option Level
iteration_in b = levels.iteration_level (levels.innermost_iteration b.seen.line)

abbrev pub ready_in : Option Level → Option Ready
ready_in None = None
ready_in (Some (level.Frame f)) = None
ready_in (Some (level.Iteration i)) = ready_by i.state i.answer

-- The innermost iteration stands elsewhere, or as it stood where it was only looked at.

abbrev pub with_state : Beside → ℕ → Iteration → Value → Beside
with_state b number then answer = with_seen b (levels.with_iterations b.seen
    (slice_set b.seen.line.iterations (length b.seen.line.iterations - 1)
    (record { number = number; state = then; answer = answer })))

abbrev pub seen_at : Option Level → Beside → Beside
seen_at None b = b
seen_at (Some (level.Frame f)) b = b
seen_at (Some (level.Iteration i)) b = with_state b i.number i.state i.answer

abbrev pub looked_at : Beside → Beside
looked_at b = seen_at (iteration_in b) b

-- Its call of a block in place.

pub record BeatsFrom (b : Beside) (number : ℕ) (before : Iteration) (answer : Value) (beat : Option Beat)
    (after : Beside) : Type 0 where
  pub heap : Held
  pub then : Iteration
  pub beats : Beats b.heap before answer heap then beat
  pub left : after ≡ with_state (with_heap b heap) number then answer

abbrev pub BeatsIn : Option Level → Beside → Option Beat → Beside → Type 0
BeatsIn None b beat after = (beat ≡ None) × (after ≡ b)
BeatsIn (Some (level.Frame f)) b beat after = (beat ≡ None) × (after ≡ b)
BeatsIn (Some (level.Iteration i)) b beat after = BeatsFrom b i.number i.state i.answer beat after

-- Nothing is done, or the iteration ends or calls.

abbrev pub Sleeps : Beside → Frame → Option Flow → Frame → Beside → Type 0
Sleeps b f flow g after = (flow ≡ None) × ((g ≡ f) × (after ≡ b))

abbrev pub RaisesIf : Option ObjId → Loaded → Beside → Frame → Option Flow → Frame → Beside → Type 0
RaisesIf None c b f flow g after = Sleeps b f flow g after
RaisesIf (Some e) c b f flow g after =
    Flows flow (λ next. (g ≡ f) × RaisedOut c.code (popped b) e next after)

abbrev pub CallsIf : Option Beat → Loaded → Beside → Frame → Option Flow → Frame → Beside → Type 0
CallsIf None c b f flow g after = Sleeps b f flow g after
CallsIf (Some beat) c b f flow g after =
    Flows flow (λ next. CallsWith c b f beat.callee beat.passed next g after)

pub record CallsInPlace (c : Loaded) (b : Beside) (f : Frame) (flow : Option Flow) (g : Frame) (after : Beside)
    : Type 0 where
  pub beat : Option Beat
  pub left : Beside
  pub beats : BeatsIn (iteration_in b) b beat left
  pub calls : CallsIf beat c left f flow g after

abbrev pub EndsReady : Ready → Loaded → Beside → Frame → Option Flow → Frame → Beside → Type 0
EndsReady (ready.Gives v) c b f flow g after = Flows flow (λ next. ReceivesHere (popped b) f v next g after)
EndsReady (ready.Raises v) c b f flow g after =
    RaisesIf (views.an_exception b.heap.store.objects v) c b f flow g after
EndsReady (ready.Enumerates s answer) c b f flow g after =
    Flows flow (λ next. EndsEnumerating c b f s answer next g after)

abbrev pub WakesAs : Option Ready → Loaded → Beside → Frame → Option Flow → Frame → Beside → Type 0
WakesAs None c b f flow g after = CallsInPlace c b f flow g after
WakesAs (Some r) c b f flow g after = EndsReady r c b f flow g after

abbrev pub WakesBy : Option Begun → Loaded → Beside → Frame → Option Flow → Frame → Beside → Type 0
WakesBy None c b f flow g after = WakesAs (ready_in (iteration_in b)) c (looked_at b) f flow g after
WakesBy (Some i) c b f flow g after = BeginsInPlace c b f i flow g after

abbrev pub WakesUp : Loaded → Beside → Frame → Option Flow → Frame → Beside → Type 0
WakesUp c b f flow g after = WakesBy b.seen.line.begun c b f flow g after

-- The plan of an iteration.

abbrev pub PlansFor : Option Level → Loaded → Beside → Frame → Step → Frame → Beside → Type 0
PlansFor None c b f next g after = (next ≡ step.Goes Ends) × ((g ≡ f) × (after ≡ b))
PlansFor (Some (level.Frame h)) c b f next g after = (next ≡ step.Goes Stays) × ((g ≡ h) × (after ≡ b))
PlansFor (Some (level.Iteration i)) c b f next g after = Iterates c b f i.number i.state i.answer next g after

abbrev pub PlansBy : Option Begun → Loaded → Beside → Frame → Step → Frame → Beside → Type 0
PlansBy (Some i) c b f next g after = Begins c b f i next g after
PlansBy None c b f next g after = PlansFor (next_level b) c (with_seen b (levels.popped b.seen)) f next g after

-- no iteration begins any more
abbrev pub begun_taken : Beside → Beside
begun_taken b = with_seen b (levels.with_begun b.seen None)

abbrev pub Plans : Loaded → Beside → Frame → Step → Frame → Beside → Type 0
Plans c b f next g after = PlansBy b.seen.line.begun c (begun_taken b) f next g after
