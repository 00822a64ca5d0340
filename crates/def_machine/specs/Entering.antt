-- How the machine enters what an instruction or an iteration calls.
use Rattle.std.specs.Prelude.{ℕ, ◌+◌, List, [], ◌∷◌, ◌++◌, length, if◌then◌else◌, Option, Some, None}
use Rattle.rb_value.specs.declared.value.Value.{Value}
use Rattle.rb_value.specs.declared.value.Value.TheVariants.{Nil, Obj}
use Rattle.rb_value.specs.declared.value.ObjId.{ObjId}
use Rattle.rb_value.specs.declared.exit.Exit.TheVariants.{Raise}
use Rattle.def_core.specs.declared.bound.BindKind.TheVariants as bind
use Rattle.def_core.specs.declared.cause.Cause.TheVariants as cause
use Rattle.rite_code.specs.Code.{Program}
use Rattle.def_calls.specs.World.{World, Activation, Answer, Result, gives, raises, fail, next_activation, with_activation, with_store, write as write_out}
use Rattle.def_calls.specs.Calls.{Entry, answers, enters, begins, Opening, is_full, settle, with_class_body, send_by_core, enter_proc, one_of, read}
use Rattle.def_calls.specs.Plans.{Iteration, Plan, Planned, finishes, fails, raises as raises_made, sends, calls, writes, reads, resumes, yields}
use Rattle.def_calls.specs.Plans as plans
use Rattle.def_calls.specs.Fibers.{Onward, Resumed, refused, begins as begins_fiber, continues}
use Rattle.def_calls.specs.Fibers as fibers
use Rattle.def_machine.specs.State.{Frame, Level, frame, iteration, Memory, State, On, body_at, begun_frame, fresh_registers, with_world}
use Rattle.def_machine.specs.Unwind.{receive, throw, closed}

-- how many activations are under way in the running fiber
abbrev pub depth : List Level → ℕ
depth ls = length ls

abbrev pub first_of : List ℕ → Option ℕ
first_of [] = None
first_of (n ∷ ns) = Some n

-- a value goes to the level that waits, and an exception to its handler
abbrev pub answer_result : Program → Result → List Level → Memory → State
answer_result c (gives v) ls m = receive v ls m
answer_result c (raises e) ls m = throw c (Raise e) ls m

abbrev pub answer : Program → Answer → List Level → Memory → State
answer c r ls m = answer_result c r.result ls (with_world m r.world)

abbrev pub new_frame : Opening → World → Memory → Frame
new_frame o w m = begun_frame (next_activation w) o.body (length m.lists) o.arguments o.block o.binds

abbrev pub open_frame : Program → Opening → World → List Level → Memory → State
open_frame c o w ls m = On (frame (new_frame o w m) ∷ ls) (record m {
  lists = m.lists ++ fresh_registers (body_at c o.body) (first_of o.scopes) o.activation.self ∷ [];
  world = with_activation w o.activation;
})

abbrev pub open_iteration : Iteration → Activation → World → List Level → Memory → State
open_iteration it a w ls m =
    On (iteration (next_activation w) it Nil ∷ ls) (with_world m (with_activation w a))

-- Enters what a call with that block argument calls, from the levels that wait for it.
unfoldable pub enter : Program → Entry → Option ObjId → List Level → Memory → State
enter c (answers a) block ls m = answer c (record a { world = settle a.world block None }) ls m
enter c (enters o w) block ls m =
    if is_full (depth ls) then answer c (fail (settle w block None) cause.StackTooDeep) ls m
    else open_frame c o (settle w block (Some (next_activation w))) ls m
enter c (begins it a w) block ls m =
    if is_full (depth ls) then answer c (fail (settle w block None) cause.StackTooDeep) ls m
    else open_iteration it a (settle w block (Some (next_activation w))) ls m

-- the body of a class or module
abbrev pub class_frame : ℕ → Memory → Frame
class_frame b m = begun_frame (next_activation m.world) b (length m.lists) [] None bind.Method

abbrev pub open_class_body : Program → ℕ → ObjId → Activation → List Level → Memory → State
open_class_body c b k a ls m =
    if is_full (depth ls) then answer c (fail m.world cause.StackTooDeep) ls m
    else On (frame (class_frame b m) ∷ ls) (record m {
      lists = m.lists ++ fresh_registers (body_at c b) None (Obj k) ∷ [];
      world = with_class_body m.world a k;
    })

-- Plans. The level of the iteration waits for the answer.

abbrev pub in_fiber : Memory → Onward (List Level) → Memory
in_fiber m o = record m { fibers = o.fibers }

abbrev pub resume_by : Program → Resumed (List Level) → List Value → List Level → Memory → State
resume_by c (refused x) args ls m = answer c (fail m.world x) ls m
resume_by c (begins_fiber p fs) args ls m = enter c (enter_proc m.world p args None) None [] (record m { fibers = fs })
resume_by c (continues o) args ls m = answer c (one_of m.world args) o.kept (in_fiber m o)

abbrev pub yield_by : Program → Option (Onward (List Level)) → List Value → List Level → Memory → State
yield_by c None args ls m = answer c (fail m.world cause.RootYield) ls m
yield_by c (Some o) args ls m = answer c (one_of m.world args) o.kept (in_fiber m o)

abbrev pub waiting : ℕ → Iteration → List Level → List Level
waiting a it ls = iteration a it Nil ∷ ls

abbrev pub carry_out : Program → Plan → ℕ → List Level → Memory → State
carry_out c (finishes v) a ls m = receive v ls (closed m a)
carry_out c (fails x) a ls m = answer c (fail m.world x) ls (closed m a)
carry_out c (raises_made e) a ls m = throw c (Raise e) ls (closed m a)
carry_out c (sends it v x args b public) a ls m =
    enter c (send_by_core m.world v x args b public) None (waiting a it ls) m
carry_out c (calls it p args b) a ls m = enter c (enter_proc m.world p args b) None (waiting a it ls) m
carry_out c (writes it bytes) a ls m = On (waiting a it ls) (with_world m (write_out m.world bytes))
carry_out c (reads it) a ls m = answer c (read m.world) (waiting a it ls) m
carry_out c (resumes it f args) a ls m =
    resume_by c (fibers.resume m.fibers (waiting a it ls) m.world.store f) args (waiting a it ls) m
carry_out c (yields it args) a ls m =
    yield_by c (fibers.yield m.fibers (waiting a it ls)) args (waiting a it ls) m

abbrev pub go_on : Program → Planned → ℕ → List Level → Memory → State
go_on c p a ls m = carry_out c p.plan a ls (with_world m (with_store m.world p.store))

-- one plan
unfoldable pub iterate : Program → ℕ → Iteration → Value → List Level → Memory → State
iterate c a it v ls m = go_on c (plans.next it v m.world.store) a ls m
