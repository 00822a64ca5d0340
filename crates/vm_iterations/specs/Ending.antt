-- How a method of an Enumerator or a Yielder ends with its answer.
use Rattle.std.specs.Prelude.{◌≡◌}
use Rattle.rb_value.specs.declared.value.Value.{Value}
use Rattle.def_plans.specs.Plan.{Plan, Planned, finishes, fails}
use Rattle.iter_enumerators.specs.declared.state.EnumeratorState.{EnumeratorState}
use Rattle.iter_enumerators.specs.Rows as enumerators
use Rattle.vm_parts.specs.Below.frames.{Frame}
use Rattle.vm_parts.specs.Below.frames.levels as levels
use Rattle.vm_parts.specs.declared.flow.Flow.{Flow}
use Rattle.vm_parts.specs.declared.flow.Flow.TheVariants.{Ends}
use Rattle.vm_parts.specs.declared.loaded.Loaded.{Loaded}
use Rattle.vm_parts.specs.Beside.{Beside, with_seen, with_heap}
use Rattle.vm_iterations.specs.Beginning.{ReceivesHere}
use Rattle.vm_iterations.specs.Following.{FailsOut}

-- the innermost iteration goes
abbrev pub popped : Beside → Beside
popped b = with_seen b (levels.iteration_popped b.seen)

abbrev pub EndsBy : Plan EnumeratorState → Loaded → Beside → Frame → Flow → Frame → Beside → Type 0
EndsBy (finishes v) c b f flow g after = ReceivesHere b f v flow g after
EndsBy (fails e) c b f flow g after = (g ≡ f) × FailsOut c b e flow after
EndsBy _ c b f flow g after = (flow ≡ Ends) × ((g ≡ f) × (after ≡ b))

abbrev pub EndsAs : Planned EnumeratorState → Loaded → Beside → Frame → Flow → Frame → Beside → Type 0
EndsAs p c b f flow g after = EndsBy p.plan c (with_heap b p.held) f flow g after

abbrev pub EndsEnumerating : Loaded → Beside → Frame → EnumeratorState → Value → Flow → Frame → Beside → Type 0
EndsEnumerating c b f s answer flow g after = EndsAs (enumerators.next b.heap s answer) c (popped b) f flow g after
