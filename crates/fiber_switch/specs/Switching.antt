-- The fibers that have begun, and which one runs.
use Rattle.std.specs.Prelude.{◌≡◌, ℕ, List, [], ◌∷◌, ◌++◌, length, slice_get, slice_set, nat_eq, nat_lt, Bool, true, false, Option, Some, None, if◌then◌else◌}
use Rattle.std.specs.Map.{lookup, remove_entry}
use Rattle.indexmap.specs.IndexMap.{insert_entry}
use Rattle.rb_value.specs.declared.value.ObjId.{ObjId}
use Rattle.rb_store.specs.Held.{Held}
use Rattle.heap.specs.Changes.{with_ended}
use Rattle.vm_unwind.specs.Levels.{Seen, line_added, line_run, line_ended}
use Rattle.fiber_switch.specs.declared.fibers.Fiber.{Fiber}
use Rattle.fiber_switch.specs.declared.fibers.Fibers.{Fibers}
use Rattle.def_core.specs.declared.cause.Cause.TheVariants as cause
use Rattle.fiber_switch.specs.declared.fibers.Resumed.{Resumed}
use Rattle.fiber_switch.specs.declared.fibers.Resumed.TheVariants.{Refused, Begins, Continues}
use Rattle.fiber_switch.specs.declared.fibers.State.{State}
use Rattle.fiber_switch.specs.declared.fibers.State.TheVariants.{Running, Resuming, Suspended, Ended}

-- the fibers by their numbers, the numbers by objects, and the number of the one that runs
pub record Begun : Type 0 where
  pub begun : List Fiber
  pub numbers : List (ℕ × ℕ)
  pub running : ℕ

abbrev pub of : Fibers → Begun
of fs = record { begun = fs.begun.items; numbers = fs.numbers; running = fs.running }

abbrev pub root : Fiber
root = record { object = None; state = Running; resumer = None }

abbrev pub root_alone : Begun
root_alone = record { begun = root ∷ []; numbers = []; running = 0 }

abbrev pub resumer_in : Option Fiber → Option ℕ
resumer_in None = None
resumer_in (Some f) = f.resumer

abbrev pub resumer_of : Begun → Option ℕ
resumer_of b = resumer_in (slice_get b.begun b.running)

abbrev pub object_in : Option Fiber → Option ObjId
object_in None = None
object_in (Some f) = f.object

abbrev pub object_of : Begun → Option ObjId
object_of b = object_in (slice_get b.begun b.running)

abbrev pub set_fiber : Begun → ℕ → State → Option ℕ → Option Fiber → Begun
set_fiber b n s r None = b
set_fiber b n s r (Some f) = record b { begun = slice_set b.begun n (record f { state = s; resumer = r }) }

-- the fiber that runs has another state and resumer
abbrev pub running_set : Begun → State → Option ℕ → Begun
running_set b s r = set_fiber b b.running s r (slice_get b.begun b.running)

-- the fiber of a number runs, if there is one: and its line
abbrev pub run_in : Begun → ℕ → Option Fiber → Begun
run_in b n None = b
run_in b n (Some f) = record b { begun = slice_set b.begun n (record f { state = Running }); running = n }

abbrev pub run : Begun → ℕ → Begun
run b n = run_in b n (slice_get b.begun n)

abbrev pub line_run_in : Seen → ℕ → Option Fiber → Seen
line_run_in r n None = r
line_run_in r n (Some f) = line_run r n

-- what the fiber of a number does to the lines when it runs
abbrev pub lines_run : Seen → Begun → ℕ → Seen
lines_run r b n = line_run_in r n (slice_get b.begun n)

-- Resuming a fiber that has begun.

-- the fiber of a number goes on for the one that runs, which waits for it
abbrev pub resumed_by : Begun → ℕ → Fiber → Begun
resumed_by b n f = record b { begun = slice_set b.begun n (record f { resumer = Some b.running }) }

abbrev pub waits : Begun → Begun
waits b = running_set b Resuming (resumer_of b)

abbrev pub answer_of : State → Resumed
answer_of Running = Refused cause.DoubleResume
answer_of Resuming = Refused cause.DoubleResume
answer_of Suspended = Continues
answer_of Ended = Refused cause.DeadFiber

abbrev pub goes_on : State → Bool
goes_on Running = false
goes_on Resuming = false
goes_on Suspended = true
goes_on Ended = false

abbrev pub answer_in : Option Fiber → Resumed
answer_in None = Refused cause.DeadFiber
answer_in (Some f) = answer_of f.state

abbrev pub switched : Bool → Begun → ℕ → Fiber → Begun
switched b fs n f = if b then run (waits (resumed_by fs n f)) n else fs

abbrev pub switched_in : Begun → ℕ → Option Fiber → Begun
switched_in fs n None = fs
switched_in fs n (Some f) = switched (goes_on f.state) fs n f

abbrev pub lines_switched : Bool → Seen → Begun → ℕ → Fiber → Seen
lines_switched b r fs n f = if b then lines_run r (waits (resumed_by fs n f)) n else r

abbrev pub lines_switched_in : Seen → Begun → ℕ → Option Fiber → Seen
lines_switched_in r fs n None = r
lines_switched_in r fs n (Some f) = lines_switched (goes_on f.state) r fs n f

-- A fiber begins, for the one that runs: it has the next line, which is without levels.

abbrev pub fiber_for : Begun → ObjId → Fiber
fiber_for b o = record { object = Some o; state = Running; resumer = Some b.running }

abbrev pub fiber_added : Begun → ℕ → ObjId → Begun
fiber_added b n o = record b { begun = b.begun ++ fiber_for b o ∷ []; numbers = insert_entry nat_eq b.numbers o.0 n }

abbrev pub began : Begun → ℕ → ObjId → Begun
began b n o = run (waits (fiber_added b n o)) n

abbrev pub next_line : Seen → ℕ
next_line r = length r.around.others

abbrev pub lines_began : Seen → Begun → ObjId → Seen
lines_began r b o = lines_run (line_added r) (waits (fiber_added b (next_line r) o)) (next_line r)

-- Resuming the fiber of an object, by its Proc and whether it has ended, and by its number if it has begun.

abbrev pub number_of : Begun → ObjId → Option ℕ
number_of b o = lookup (nat_eq o.0) b.numbers

abbrev pub answer_by : Begun → Option ℕ → ObjId → Resumed
answer_by b None proc = Begins proc
answer_by b (Some n) proc = answer_in (slice_get b.begun n)

abbrev pub switched_by : Begun → Option ℕ → ℕ → ObjId → Begun
switched_by b None next o = began b next o
switched_by b (Some n) next o = switched_in b n (slice_get b.begun n)

abbrev pub lines_by : Seen → Begun → Option ℕ → ObjId → Seen
lines_by r b None o = lines_began r b o
lines_by r b (Some n) o = lines_switched_in r b n (slice_get b.begun n)

abbrev pub answer_to : Begun → ObjId → Option (ObjId × Bool) → Resumed
answer_to b o None = Refused cause.DeadFiber
answer_to b o (Some f) = if f.1 then Refused cause.DeadFiber else answer_by b (number_of b o) f.0

abbrev pub resumed : Begun → ℕ → ObjId → Option (ObjId × Bool) → Begun
resumed b next o None = b
resumed b next o (Some f) = if f.1 then b else switched_by b (number_of b o) next o

abbrev pub lines_resumed : Seen → Begun → ObjId → Option (ObjId × Bool) → Seen
lines_resumed r b o None = r
lines_resumed r b o (Some f) = if f.1 then r else lines_by r b (number_of b o) o

-- Yielding.

abbrev pub yielded : Begun → Option ℕ → Begun
yielded b None = b
yielded b (Some n) = run (running_set b Suspended None) n

abbrev pub lines_yielded : Seen → Begun → Option ℕ → Seen
lines_yielded r b None = r
lines_yielded r b (Some n) = lines_run r (running_set b Suspended None) n

-- The fiber that runs ends, and the one that resumed it runs.

abbrev pub number_dropped : Begun → Option ObjId → Begun
number_dropped b None = b
number_dropped b (Some o) = record b { numbers = remove_entry (nat_eq o.0) b.numbers }

abbrev pub ending : Begun → Begun
ending b = running_set (number_dropped b (object_of b)) Ended None

abbrev pub ended : Begun → Option ℕ → Begun
ended b None = b
ended b (Some n) = run (ending b) n

abbrev pub lines_ended : Seen → Begun → Option ℕ → Seen
lines_ended r b None = r
lines_ended r b (Some n) = line_ended (lines_run r (ending b) n) b.running

abbrev pub heap_ended_at : Held → Option ObjId → Held
heap_ended_at h None = h
heap_ended_at h (Some o) = with_ended h o

-- the heap notes it of the fiber's object
abbrev pub heap_ended : Held → Begun → Option ℕ → Held
heap_ended h b None = h
heap_ended h b (Some n) = heap_ended_at h (object_of b)
