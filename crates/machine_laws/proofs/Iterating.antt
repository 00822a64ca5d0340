-- One plan of an iteration.
use Rattle.std.proofs.Common.{◌≡◌, ℕ, ◌<◌, ◌≤◌, List, [], ◌∷◌, length, Bool, true, false, refl, ap, ◌∙◌, arith}
use Rattle.std.specs.Prelude.{Option, Some, None, if◌then◌else◌}
use Rattle.rb_value.specs.declared.value.Value.{Value}
use Rattle.rb_value.specs.declared.value.Value.TheVariants.{Nil, Obj}
use Rattle.rb_value.specs.declared.value.ObjId.{ObjId}
use Rattle.rb_value.specs.declared.exit.Exit.TheVariants.{Raise}
use Rattle.rb_value.specs.declared.kind.Sort.TheVariants as sort
use Rattle.def_core.specs.declared.cause.Cause.{Cause}
use Rattle.def_core.specs.declared.cause.Cause.TheVariants as cause
use Rattle.def_core.specs.Sound.{census, Proc, Fiber, Is, IsValue, AllAre}
use Rattle.def_core.proofs.Good.{is_good}
use Rattle.rb_raise.specs.Causes.{SoundCause}
use Rattle.rite_code.specs.Code.{Program, IsWhole}
use Rattle.code_verifier.specs.Verified.{IsVerified}
use Rattle.def_calls.specs.World.{fail, with_store, write as write_out}
use Rattle.def_calls.specs.Calls.{send_by_core, enter_proc, one_of, read}
use Rattle.def_calls.specs.Plans.{Iteration, Plan, finishes, fails, raises as raises_made, sends, calls, writes, reads, resumes, yields, next}
use Rattle.def_calls.specs.Fibers as fibers
use Rattle.def_calls.specs.Fibers.{Wait, resuming, suspended, Onward, Resumed, refused, begins as begins_fiber, continues, object, same_name, fiber_named, put_aside, wait_of, resume_fiber}
use Rattle.def_calls.specs.Views.{kind_in, fiber_of}
use Rattle.def_machine.specs.State.{Level, iteration, Memory, with_world}
use Rattle.def_machine.specs.Unwind.{closed}
use Rattle.def_machine.specs.Entering.{answer, in_fiber, resume_by, yield_by, waiting, carry_out, iterate}
use Rattle.def_machine.specs.Fits.{FiberFits, IsActivation, StateFits, waiting_holders, RunsWell, Fits}
use Rattle.world_laws.specs.Fine.{Fine, Keeps}
use Rattle.world_laws.specs.Outcomes.{PlanIs}
use Rattle.world_laws.proofs.Answers.{fails_with}
use Rattle.world_laws.proofs.Calling.{send_is}
use Rattle.world_laws.proofs.Ending.{close_keeps, one_of_is, read_is}
use Rattle.world_laws.proofs.Entering.{proc_enters}
use Rattle.world_laws.proofs.Growing.{value_stays, sort_stays, activation_number_stays}
use Rattle.world_laws.proofs.Plans.{next_is}
use Rattle.world_laws.proofs.Worlds.{extends_written, fine_written}
use Rattle.machine_laws.specs.Levels.{WaitsWell}
use Rattle.machine_laws.proofs.Alike.{state_is, state_fits}
use Rattle.machine_laws.proofs.Answering.{throws, answered, waits_later, waits_in_world}
use Rattle.machine_laws.proofs.Entering.{enters_fit}
use Rattle.machine_laws.proofs.Fibers.{found_named, OnwardFits, goes_on, back_fits}
use Rattle.machine_laws.proofs.Given.{fiber_runs}
use Rattle.machine_laws.proofs.Memories.{FibersFit, changed_memory, other_fibers}
use Rattle.machine_laws.proofs.Opening.{iterates}
use Rattle.machine_laws.proofs.Receiving.{received, onward_waits}
use Rattle.machine_laws.proofs.Throwing.{stands_of}
use Rattle.machine_laws.proofs.Worlds.{bodies, fine_world}

-- an iteration over levels that wait waits too
pub waiting_well : (p : Program) (a : ℕ) (it : Iteration) (ls : List Level) (m : Memory) → WaitsWell p ls m
    → IsActivation m.world a → StateFits (census m.world.store) it → WaitsWell p (waiting a it ls) m
waiting_well p a it ls m h active state = record {
  memory = h.memory;
  levels = ((active, state, tt), tt, h.levels);
  apart = record { once = λ n. omega (arith, h.apart.once n) };
}

-- The running fiber among those that wait.

module _ (p : Program) (ls : List Level) (m : Memory) (h : WaitsWell p ls m) (some : 0 < length ls) (wait : Wait) where
  aside : AllAre (FiberFits p m) (put_aside m.fibers wait ls)
  aside = (
    record {
      some = some;
      name = h.memory.running;
      resumer = h.memory.resumer;
      levels = h.levels;
    },
    h.memory.waiting,
  )

  aside_once : (n : ℕ) → waiting_holders n (put_aside m.fibers wait ls) ≤ 1
  aside_once n = h.apart.once n

-- What a resume comes to.
abbrev pub ResumedFits : Program → Memory → Resumed (List Level) → Type 0
ResumedFits p m (refused c) = SoundCause (census m.world.store) c
ResumedFits p m (begins_fiber q fs) = Is (census m.world.store) Proc q × FibersFit p m fs
    × ((n : ℕ) → waiting_holders n fs.others ≤ 1)
ResumedFits p m (continues o) = OnwardFits p m o

module _ (p : Program) (ls : List Level) (m : Memory) (h : WaitsWell p ls m) (some : 0 < length ls)
    (f : ObjId) (is : Is (census m.world.store) Fiber f) where
  goes : (b : ObjId) (w : Wait) (found : Option (fibers.Fiber (List Level))) → Is (census m.world.store) Proc b
      → same_name (object f) m.fibers.running ≡ false → fiber_named (object f) m.fibers.others ≡ found
      → ResumedFits p m (fibers.resume_by m.fibers ls f b w found)
  goes b w None proc other e = (
    proc,
    record { running = is; resumer = h.memory.running; waiting = aside p ls m h some resuming },
    aside_once p ls m h some resuming,
  )
  goes b resuming (Some x) proc other e = tt
  goes b suspended (Some x) proc other e =
      let fs = put_aside m.fibers resuming ls in
      let there : fiber_named (object f) fs ≡ Some x =
      ap (λ (t : Bool). if t then Some (record {
        name = m.fibers.running;
        wait = resuming;
        resumer = m.fibers.resumer;
        kept = ls;
      }) else fiber_named (object f) m.fibers.others) other ∙ e in
      let found = found_named (FiberFits p m) (object f) x fs there in
      goes_on p m fs (aside p ls m h some resuming) (aside_once p ls m h some resuming) (object f) x (object f)
      (Some m.fibers.running) found is h.memory.running

  by_block : (found : Option (ObjId × Bool)) → fiber_of (kind_in m.world.store.objects (Obj f)) ≡ found
      → ResumedFits p m (resume_fiber m.fibers ls f found)
  by_block None e = tt
  by_block (Some b) e =
      let proc = fiber_runs p m.lists m.world (fine_world p m.lists m.world h.memory.world) f b is e in
      let others = m.fibers.others in
      elim b.1 as (λ t. ResumedFits p m (if t then refused cause.DeadFiber
      else (if same_name (object f) m.fibers.running then refused cause.DoubleResume
      else fibers.resume_by m.fibers ls f b.0 (wait_of (fiber_named (object f) others))
      (fiber_named (object f) others)))) [
        | true ↦ tt
        | false ↦ elim (same_name (object f) m.fibers.running) as (λ t. same_name (object f) m.fibers.running ≡ t
            → ResumedFits p m (if t then refused cause.DoubleResume
            else fibers.resume_by m.fibers ls f b.0 (wait_of (fiber_named (object f) others))
            (fiber_named (object f) others))) [
              | true ↦ λ e. tt
              | false ↦ λ e. goes b.0 (wait_of (fiber_named (object f) others))
                  (fiber_named (object f) others) proc e refl
            ] refl
      ]

  pub resumed : ResumedFits p m (fibers.resume m.fibers ls m.world.store f)
  unfolding fibers.resume
  resumed = by_block (fiber_of (kind_in m.world.store.objects (Obj f))) refl

module _ (p : Program) (whole : IsWhole p) (verified : IsVerified p) where
  fine : (ls : List Level) (m : Memory) → WaitsWell p ls m → Fine (bodies p m.lists) m.world
  fine ls m h = fine_world p m.lists m.world h.memory.world

  -- Moves between fibers.

  in_other : (o : Onward (List Level)) (ls : List Level) (m : Memory) (args : List Value) → WaitsWell p ls m
      → OnwardFits p m o → AllAre (IsValue (census m.world.store)) args
      → Fits p (answer p (one_of m.world args) o.kept (in_fiber m o))
  in_other o ls m args h on values =
      let w = onward_waits p m (in_fiber m o) o h.memory on (other_fibers p m h.memory o.fibers) refl in
      answered p whole verified (one_of m.world args) o.kept (in_fiber m o) w
      (one_of_is (bodies p m.lists) m.world (fine ls m h) args values)

  refuses : (x : Cause) (ls : List Level) (m : Memory) → WaitsWell p ls m → SoundCause (census m.world.store) x
      → Fits p (answer p (fail m.world x) ls m)
  refuses x ls m h sound =
      answered p whole verified (fail m.world x) ls m h (fails_with (bodies p m.lists) m.world (fine ls m h) x sound)

  resumes_by : (r : Resumed (List Level)) (args : List Value) (ls : List Level) (m : Memory) → WaitsWell p ls m
      → ResumedFits p m r → AllAre (IsValue (census m.world.store)) args → Fits p (resume_by p r args ls m)
  resumes_by (refused x) args ls m h is values = refuses x ls m h is
  resumes_by (begins_fiber q fs) args ls m h is values =
      let k = record m { fibers = fs } in
      let c = other_fibers p m h.memory fs in
      let w : WaitsWell p [] k = record {
        memory = changed_memory p m k c h.memory.names is.1;
        levels = tt;
        apart = record { once = λ n. omega (arith, is.2 n) };
      } in
      enters_fit p whole verified [] k w (enter_proc m.world q args None) None
      (proc_enters (bodies p m.lists) m.world (fine ls m h) args None values tt q
      (is_good m.world.store Proc q is.0).there) tt
  resumes_by (continues o) args ls m h is values = in_other o ls m args h is values

  yields_by : (found : Option (Onward (List Level))) (args : List Value) (ls : List Level) (m : Memory)
      → WaitsWell p ls m → ((o : Onward (List Level)) → found ≡ Some o → OnwardFits p m o)
      → AllAre (IsValue (census m.world.store)) args → Fits p (yield_by p found args ls m)
  yields_by None args ls m h on values = refuses cause.RootYield ls m h tt
  yields_by (Some o) args ls m h on values = in_other o ls m args h (on o refl) values

  yielded : (ls : List Level) (m : Memory) → WaitsWell p ls m → 0 < length ls → (o : Onward (List Level))
      → fibers.yield m.fibers ls ≡ Some o → OnwardFits p m o
  unfolding fibers.yield
  yielded ls m h some o e =
      (back_fits p m (put_aside m.fibers suspended ls) (aside p ls m h some suspended)
      (aside_once p ls m h some suspended) m.fibers.resumer o e).onward

  -- Plans.

  closing : (ls : List Level) (m : Memory) (a : ℕ) → WaitsWell p ls m → IsActivation m.world a
      → Keeps (bodies p m.lists) m.world (closed m a).world
  closing ls m a h active = close_keeps (bodies p m.lists) m.world (fine ls m h) a

  carries : (x : Plan) (a : ℕ) (ls : List Level) (m : Memory) → WaitsWell p ls m → IsActivation m.world a
      → PlanIs (census m.world.store) x → Fits p (carry_out p x a ls m)
  carries (finishes v) a ls m h active is =
      let k = closing ls m a h active in
      received p v ls (closed m a) (waits_in_world p whole verified (closed m a).world ls m h k)
      (value_stays m.world (closed m a).world k.extends v is)
  carries (fails x) a ls m h active is = refuses x ls m h is
  carries (raises_made e) a ls m h active is =
      let k = closing ls m a h active in
      throws p whole verified (Raise e) ls (closed m a)
      (stands_of p ls (closed m a) (waits_in_world p whole verified (closed m a).world ls m h k))
      (sort_stays m.world (closed m a).world k.extends sort.Exception e is)
  carries (sends it v x args b public) a ls m h active is =
      let w = waiting_well p a it ls m h active (state_fits (census m.world.store) it is.0) in
      enters_fit p whole verified (waiting a it ls) m w (send_by_core m.world v x args b public) None
      (send_is (bodies p m.lists) m.world (fine ls m h) x v args b is.2 is.1 is.3 is.4 public) tt
  carries (calls it q args b) a ls m h active is =
      let w = waiting_well p a it ls m h active (state_fits (census m.world.store) it is.0) in
      enters_fit p whole verified (waiting a it ls) m w (enter_proc m.world q args b) None
      (proc_enters (bodies p m.lists) m.world (fine ls m h) args b is.2 is.3 q
      (is_good m.world.store Proc q is.1).there) tt
  carries (writes it bytes) a ls m h active is =
      let e = extends_written m.world bytes in
      iterates p ls (with_world m (write_out m.world bytes)) a it Nil
      (waits_later p whole verified (write_out m.world bytes) ls m h
      (fine_written (bodies p m.lists) m.world (fine ls m h) bytes) e)
      (activation_number_stays m.world (write_out m.world bytes) e a active)
      (state_fits (census m.world.store) it is) tt
  carries (reads it) a ls m h active is =
      answered p whole verified (read m.world) (waiting a it ls) m
      (waiting_well p a it ls m h active (state_fits (census m.world.store) it is))
      (read_is (bodies p m.lists) m.world (fine ls m h))
  carries (resumes it f args) a ls m h active is =
      let w = waiting_well p a it ls m h active (state_fits (census m.world.store) it is.0) in
      resumes_by (fibers.resume m.fibers (waiting a it ls) m.world.store f) args (waiting a it ls) m w
      (resumed p (waiting a it ls) m w (omega arith) f is.1) is.2
  carries (yields it args) a ls m h active is =
      let w = waiting_well p a it ls m h active (state_fits (census m.world.store) it is.0) in
      yields_by (fibers.yield m.fibers (waiting a it ls)) args (waiting a it ls) m w
      (yielded (waiting a it ls) m w (omega arith)) is.1

  pub iteration_fits : (a : ℕ) (it : Iteration) (v : Value) (ls : List Level) (m : Memory)
      → RunsWell p (iteration a it v ∷ ls) m → Fits p (iterate p a it v ls m)
  unfolding iterate
  iteration_fits a it v ls m h =
      let w : WaitsWell p ls m = record {
        memory = h.memory;
        levels = h.levels.1;
        apart = record { once = λ n. omega (arith, h.apart.once n) };
      } in
      let plan = next it v m.world.store in
      let is = next_is (bodies p m.lists) m.world (fine ls m w) it v
      (state_is (census m.world.store) it h.levels.0.1) h.levels.0.2 in
      let u = with_store m.world plan.store in
      carries plan.plan a ls (with_world m u) (waits_in_world p whole verified u ls m w is.keeps)
      (activation_number_stays m.world u is.keeps.extends a h.levels.0.0) is.plan
