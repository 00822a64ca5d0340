-- Fibers, which are an addition to the standard: those that wait, each with what it goes on with, and the one that
-- runs. What a fiber keeps is a list of pending items or of frames.
use Rattle.std.specs.Prelude.{List, [], ◌∷◌, Bool, true, false, if◌then◌else◌, Option, Some, None}
use Rattle.rb_value.specs.declared.value.Value.TheVariants.{Obj}
use Rattle.rb_value.specs.declared.value.ObjId.{ObjId}
use Rattle.def_core.specs.declared.cause.Cause.{Cause}
use Rattle.def_core.specs.declared.cause.Cause.TheVariants as cause
use Rattle.def_core.specs.Store.{Store, same_object}
use Rattle.def_core.specs.Parts as parts
use Rattle.def_calls.specs.Views.{kind_in, fiber_of}

-- the root runs the main program, and every other one is a Fiber object
pub data Name : Type 0 where
  root : Name
  object : ObjId → Name

-- A fiber that waits does so for one that it resumed, or since it yielded. One that isn't in the list was created and
-- hasn't begun, or has ended, which its object says.
pub data Wait : Type 0 where
  resuming : Wait
  suspended : Wait

pub record Fiber (K : Type 0) : Type 0 where
  pub name : Name
  pub wait : Wait
  pub resumer : Option Name
  pub kept : K

pub record Fibers (K : Type 0) : Type 0 where
  pub running : Name
  pub resumer : Option Name
  pub others : List (Fiber K)

abbrev pub opening : {K : Type 0} → Fibers K
opening = record { running = root; resumer = None; others = [] }

abbrev pub same_name : Name → Name → Bool
same_name root root = true
same_name root (object f) = false
same_name (object f) root = false
same_name (object f) (object g) = same_object f g

abbrev pub fiber_named : {K : Type 0} → Name → List (Fiber K) → Option (Fiber K)
fiber_named n [] = None
fiber_named n (f ∷ fs) = if same_name n f.name then Some f else fiber_named n fs

abbrev pub without : {K : Type 0} → Name → List (Fiber K) → List (Fiber K)
without n [] = []
without n (f ∷ fs) = if same_name n f.name then fs else f ∷ without n fs

-- the running fiber among those that wait
abbrev pub put_aside : {K : Type 0} → Fibers K → Wait → K → List (Fiber K)
put_aside fs wait kept = (record { name = fs.running; wait = wait; resumer = fs.resumer; kept = kept }) ∷ fs.others

-- what goes on, and the fibers around it
pub record Onward (K : Type 0) : Type 0 where
  pub kept : K
  pub fibers : Fibers K

-- What a resume comes to: a failure, a fiber that begins with its Proc, or one that goes on.
pub data Resumed (K : Type 0) : Type 0 where
  refused : Cause → Resumed K
  begins : ObjId → Fibers K → Resumed K
  continues : Onward K → Resumed K

abbrev pub resume_by : {K : Type 0} → Fibers K → K → ObjId → ObjId → Wait → Option (Fiber K) → Resumed K
resume_by fs kept f block wait None =
    begins block (record { running = object f; resumer = Some fs.running; others = put_aside fs resuming kept })
resume_by fs kept f block resuming (Some g) = refused cause.DoubleResume
resume_by fs kept f block suspended (Some g) = continues (record {
  kept = g.kept;
  fibers = record {
    running = object f;
    resumer = Some fs.running;
    others = without (object f) (put_aside fs resuming kept);
  };
})

abbrev pub wait_of : {K : Type 0} → Option (Fiber K) → Wait
wait_of None = suspended
wait_of (Some f) = f.wait

abbrev pub resume_fiber : {K : Type 0} → Fibers K → K → ObjId → Option (ObjId × Bool) → Resumed K
resume_fiber fs kept f None = refused cause.DeadFiber
resume_fiber fs kept f (Some b) =
    if b.1 then refused cause.DeadFiber
    else (if same_name (object f) fs.running then refused cause.DoubleResume
    else resume_by fs kept f b.0 (wait_of (fiber_named (object f) fs.others)) (fiber_named (object f) fs.others))

unfoldable pub resume : {K : Type 0} → Fibers K → K → Store → ObjId → Resumed K
resume fs kept st f = resume_fiber fs kept f (fiber_of (kind_in st.objects (Obj f)))

-- the resumer runs again; the root has none
abbrev pub back_in : {K : Type 0} → List (Fiber K) → Option (Fiber K) → Option (Onward K)
back_in others None = None
back_in others (Some r) = Some (record {
  kept = r.kept;
  fibers = record { running = r.name; resumer = r.resumer; others = without r.name others };
})

abbrev pub back_to : {K : Type 0} → List (Fiber K) → Option Name → Option (Onward K)
back_to others None = None
back_to others (Some r) = back_in others (fiber_named r others)

-- a yield suspends the running fiber
unfoldable pub yield : {K : Type 0} → Fibers K → K → Option (Onward K)
yield fs kept = back_to (put_aside fs suspended kept) fs.resumer

-- the end of the running fiber's body, which its object keeps
unfoldable pub finish : {K : Type 0} → Fibers K → Option (Onward K)
finish fs = back_to fs.others fs.resumer

unfoldable pub with_ended : Store → Name → Store
with_ended st root = st
with_ended st (object f) = parts.with_objects st (parts.with_ended st.objects f)
