-- Moves between fibers: each that is named is one, whatever they keep.
use Rattle.std.proofs.Common.{List, [], ◌∷◌, Bool, true, false, if◌then◌else◌}
use Rattle.std.specs.Prelude.{Option, Some, None}
use Rattle.rb_value.specs.declared.value.Value.TheVariants.{Obj}
use Rattle.rb_value.specs.declared.value.ObjId.{ObjId}
use Rattle.def_core.specs.declared.cause.Cause.TheVariants as cause
use Rattle.def_core.specs.Store.{Store}
use Rattle.def_core.specs.Sound.{Census, census, Sound, Proc, Fiber, Is, OptionIs, AllAre}
use Rattle.class_model.proofs.Lineages.{any_of}
use Rattle.def_calls.specs.World.{World, with_store}
use Rattle.def_calls.specs.Views.{kind_in, fiber_of}
use Rattle.def_calls.specs.Fibers.{Name, root, object, Wait, resuming, suspended, Fiber as Waiting, Fibers, same_name, fiber_named, without, put_aside, refused, resume_by, wait_of, resume_fiber, resume, back_in, back_to, yield, finish, with_ended}
use Rattle.world_laws.specs.Fine.{Bodies, Extends, Fine, Keeps}
use Rattle.world_laws.specs.Outcomes.{NameIs, FiberIs, FibersAre, OnwardIs, ResumedIs}
use Rattle.world_laws.proofs.Growing.{role_stays, option_stays, all_stay}
use Rattle.world_laws.proofs.Standing.{keeps_itself}
use Rattle.world_laws.proofs.Changing.{keeps_ended}
use Rattle.world_laws.proofs.Holding.{fiber_of_is}

-- In later worlds.

module _ (w v : World) (e : Extends w v) where
  pub fiber_name_stays : (n : Name) → NameIs (census w.store) n → NameIs (census v.store) n
  fiber_name_stays root h = tt
  fiber_name_stays (object f) h = role_stays w v e Fiber f h

  module _ {K : Type 0} (P Q : K → Type 0) (more : (x : K) → P x → Q x) where
    pub fiber_stays : (f : Waiting K) → FiberIs (census w.store) P f → FiberIs (census v.store) Q f
    fiber_stays f h = record {
      name = fiber_name_stays f.name h.name;
      resumer = option_stays (NameIs (census w.store)) (NameIs (census v.store)) fiber_name_stays f.resumer h.resumer;
      kept = more f.kept h.kept;
    }

    pub fibers_stay : (fs : Fibers K) → FibersAre (census w.store) P fs → FibersAre (census v.store) Q fs
    fibers_stay fs h = record {
      running = fiber_name_stays fs.running h.running;
      resumer = option_stays (NameIs (census w.store)) (NameIs (census v.store)) fiber_name_stays fs.resumer h.resumer;
      others = all_stay (FiberIs (census w.store) P) (FiberIs (census v.store) Q) fiber_stays fs.others h.others;
    }

-- Moves.

module _ {K : Type 0} (k : Census) (P : K → Type 0) where
  named_is : (n : Name) (fs : List (Waiting K)) → AllAre (FiberIs k P) fs → OptionIs (FiberIs k P) (fiber_named n fs)
  named_is n [] all = tt
  named_is n (f ∷ fs) all = elim (same_name n f.name) as
      (λ c. OptionIs (FiberIs k P) (if c then Some f else fiber_named n fs)) [
        | true ↦ all.0
        | false ↦ named_is n fs all.1
      ]

  without_are : (n : Name) (fs : List (Waiting K)) → AllAre (FiberIs k P) fs → AllAre (FiberIs k P) (without n fs)
  without_are n [] all = tt
  without_are n (f ∷ fs) all = elim (same_name n f.name) as
      (λ c. AllAre (FiberIs k P) (if c then fs else f ∷ without n fs)) [
        | true ↦ all.1
        | false ↦ (all.0, without_are n fs all.1)
      ]

  aside_are : (fs : Fibers K) (wait : Wait) (kept : K) → FibersAre k P fs → P kept
      → AllAre (FiberIs k P) (put_aside fs wait kept)
  aside_are fs wait kept h here = (record { name = h.running; resumer = h.resumer; kept = here }, h.others)

  resumed_by : (fs : Fibers K) (kept : K) (f p : ObjId) (wait : Wait) (o : Option (Waiting K)) → FibersAre k P fs
      → P kept → Is k Fiber f → Is k Proc p → OptionIs (FiberIs k P) o
      → ResumedIs k P (resume_by fs kept f p wait o)
  resumed_by fs kept f p wait None h here is run there = (
    run,
    record { running = is; resumer = h.running; others = aside_are fs resuming kept h here },
  )
  resumed_by fs kept f p resuming (Some g) h here is run there = tt
  resumed_by fs kept f p suspended (Some g) h here is run there = record {
    kept = there.kept;
    fibers = record {
      running = is;
      resumer = h.running;
      others = without_are (object f) (put_aside fs resuming kept) (aside_are fs resuming kept h here);
    };
  }

  resumed_fiber : (fs : Fibers K) (kept : K) (f : ObjId) (o : Option (ObjId × Bool)) → FibersAre k P fs → P kept
      → Is k Fiber f → OptionIs (λ x. Is k Proc x.0) o → ResumedIs k P (resume_fiber fs kept f o)
  resumed_fiber fs kept f None h here is run = tt
  resumed_fiber fs kept f (Some x) h here is run = by x.1 (same_name (object f) fs.running)
    where
      by : (ended running : Bool) → ResumedIs k P (if ended then refused cause.DeadFiber
          else (if running then refused cause.DoubleResume
          else resume_by fs kept f x.0 (wait_of (fiber_named (object f) fs.others)) (fiber_named (object f) fs.others)))
      by true running = tt
      by false true = tt
      by false false = resumed_by fs kept f x.0 (wait_of (fiber_named (object f) fs.others))
          (fiber_named (object f) fs.others) h here is run (named_is (object f) fs.others h.others)

  back_in_is : (others : List (Waiting K)) (o : Option (Waiting K)) → AllAre (FiberIs k P) others
      → OptionIs (FiberIs k P) o → OptionIs (OnwardIs k P) (back_in others o)
  back_in_is others None all h = tt
  back_in_is others (Some r) all h = record {
    kept = h.kept;
    fibers = record { running = h.name; resumer = h.resumer; others = without_are r.name others all };
  }

  back_to_is : (others : List (Waiting K)) (o : Option Name) → AllAre (FiberIs k P) others
      → OptionIs (OnwardIs k P) (back_to others o)
  back_to_is others None all = tt
  back_to_is others (Some r) all = back_in_is others (fiber_named r others) all (named_is r others all)

  -- a yield, and the end of a fiber's body
  pub yield_is : (fs : Fibers K) (kept : K) → FibersAre k P fs → P kept → OptionIs (OnwardIs k P) (yield fs kept)
  unfolding yield
  yield_is fs kept h here =
      back_to_is (put_aside fs suspended kept) fs.resumer (aside_are fs suspended kept h here)

  pub finish_is : (fs : Fibers K) → FibersAre k P fs → OptionIs (OnwardIs k P) (finish fs)
  unfolding finish
  finish_is fs h = back_to_is fs.others fs.resumer h.others

pub resume_is : {K : Type 0} (st : Store) → Sound st → (P : K → Type 0) (fs : Fibers K) (kept : K) (f : ObjId)
    → FibersAre (census st) P fs → P kept → Is (census st) Fiber f → ResumedIs (census st) P (resume fs kept st f)
unfolding resume
resume_is st sound P fs kept f h here is = resumed_fiber (census st) P fs kept f (fiber_of (kind_in st.objects (Obj f)))
    h here is (fiber_of_is st sound (Obj f) (any_of st Fiber f is))

-- the end of the running fiber, in its object
pub ended_keeps : (b : Bodies) (w : World) → Fine b w → (n : Name) → NameIs (census w.store) n
    → Keeps b w (with_store w (with_ended w.store n))
unfolding with_ended
ended_keeps b w fine root is = keeps_itself b w fine
ended_keeps b w fine (object f) is = keeps_ended b w fine f is
