-- What runs where a fiber ends, is resumed or gives way: the same one on both sides.
use Rattle.std.proofs.Common.{◌≡◌, ℕ, ◌+◌, ◌<◌, ◌≤◌, List, [], ◌∷◌, refl, sym, ap, ◌∙◌, subst, arith, length, Bool, true, false, true≢false}
use Rattle.std.specs.Prelude.{if◌then◌else◌, Option, Some, None}
use Rattle.std.proofs.lemmas.Bool.{eqb-true}
use Rattle.rb_value.specs.declared.value.Value.TheVariants.{Obj}
use Rattle.rb_value.specs.declared.value.ObjId.{ObjId}
use Rattle.def_core.specs.declared.cause.Cause.{Cause}
use Rattle.def_core.specs.declared.cause.Cause.TheVariants as cause
use Rattle.def_core.specs.Store.{Store}
use Rattle.rite_code.specs.Code.{Program}
use Rattle.def_calls.specs.Views.{kind_in, fiber_of}
use Rattle.def_calls.specs.World.{World}
use Rattle.def_calls.specs.Fibers.{Name, root, object, Wait, resuming, suspended, Fiber, Fibers, same_name, fiber_named, without, put_aside, Onward, Resumed, refused, begins, continues, wait_of, resume_by, resume_fiber, resume, back_in, back_to, yield, finish}
use Rattle.def_eval.specs.Source.{Source}
use Rattle.def_eval.specs.Configuration as source
use Rattle.def_eval.specs.Configuration.{Kept}
use Rattle.def_machine.specs.State as machine
use Rattle.def_machine.specs.State.{Registers, Level}
use Rattle.step_laws.specs.Site.{Site}
use Rattle.step_laws.specs.Calm.{Grows}
use Rattle.step_laws.specs.Measure.{weights, waiting}
use Rattle.step_laws.specs.Relation.{Ground, Waits, FiberIs, FibersAre, AllFibers, SitesAre, uses, uses_in, Both}
use Rattle.step_laws.proofs.Untouched.{sites_grow}

pub named_same : (n d : Name) → same_name n d ≡ true → n ≡ d
named_same root root e = refl
named_same root (object f) e = absurd (true≢false (sym e))
named_same (object f) root e = absurd (true≢false (sym e))
named_same (object f) (object d) e = ap (λ (i : ℕ). object (record { 0 = i })) (eqb-true f.0 d.0 e)

-- A fiber that waits on both sides, and the others.
pub record FoundIs (hs : List Site) (l : List Registers) (n : Name) (fs : List (Fiber Kept))
    (gs : List (Fiber (List Level))) (f : Fiber Kept) (q : Fiber (List Level)) : Type 0 where
  pub found : fiber_named n fs ≡ Some f
  pub found_too : fiber_named n gs ≡ Some q
  pub is : FiberIs hs l f q
  pub name : n ≡ f.name
  pub others : FibersAre hs l (without n fs) (without n gs)
  pub count : (i : ℕ) → uses i q.kept + uses_in i (without n gs) ≡ uses_in i gs
  pub fewer : length (without n gs) + 1 ≡ length gs
  pub lighter : waiting (without n fs) + 1 + weights f.kept.items ≡ waiting fs

pub data Found (hs : List Site) (l : List Registers) (n : Name) (fs : List (Fiber Kept)) (gs : List (Fiber (List Level)))
    : Type 0 where
  neither : fiber_named n fs ≡ None → fiber_named n gs ≡ None → Found hs l n fs gs
  both : (f : Fiber Kept) (q : Fiber (List Level)) → FoundIs hs l n fs gs f q → Found hs l n fs gs

pub found_alike : (hs : List Site) (l : List Registers) (n : Name) (fs : List (Fiber Kept))
    (gs : List (Fiber (List Level))) → FibersAre hs l fs gs → Found hs l n fs gs
found_alike hs l n [] [] a = neither refl refl
found_alike hs l n [] (g ∷ gs) a = absurd a
found_alike hs l n (f ∷ fs) [] a = absurd a
found_alike hs l n (f ∷ fs) (g ∷ gs) a = at (same_name n f.name) refl (found_alike hs l n fs gs a.1)
  where
    same : same_name n g.name ≡ same_name n f.name
    same = ap (same_name n) a.0.name

    at : (b : Bool) → same_name n f.name ≡ b → Found hs l n fs gs → Found hs l n (f ∷ fs) (g ∷ gs)
    at true e further = both f g (record {
      found = ap (λ (b : Bool). if b then Some f else fiber_named n fs) e;
      found_too = ap (λ (b : Bool). if b then Some g else fiber_named n gs) (same ∙ e);
      is = a.0;
      name = named_same n f.name e;
      others = subst (λ (b : Bool). FibersAre hs l (if b then fs else f ∷ without n fs) (without n (g ∷ gs))) (sym e)
          (subst (λ (b : Bool). FibersAre hs l fs (if b then gs else g ∷ without n gs)) (sym (same ∙ e)) a.1);
      count = λ i. subst (λ (b : Bool). uses i g.kept + uses_in i (if b then gs else g ∷ without n gs)
          ≡ uses_in i (g ∷ gs)) (sym (same ∙ e)) refl;
      fewer = subst (λ (b : Bool). length (if b then gs else g ∷ without n gs) + 1 ≡ length (g ∷ gs)) (sym (same ∙ e))
          (omega arith);
      lighter = subst (λ (b : Bool). waiting (if b then fs else f ∷ without n fs) + 1 + weights f.kept.items
          ≡ waiting (f ∷ fs)) (sym e) (omega arith);
    })
    at false e (neither p q) = neither (ap (λ (b : Bool). if b then Some f else fiber_named n fs) e ∙ p)
        (ap (λ (b : Bool). if b then Some g else fiber_named n gs) (same ∙ e) ∙ q)
    at false e (both d q i) = both d q (record {
      found = ap (λ (b : Bool). if b then Some f else fiber_named n fs) e ∙ i.found;
      found_too = ap (λ (b : Bool). if b then Some g else fiber_named n gs) (same ∙ e) ∙ i.found_too;
      is = i.is;
      name = i.name;
      others = subst (λ (b : Bool). FibersAre hs l (if b then fs else f ∷ without n fs) (without n (g ∷ gs))) (sym e)
          (subst (λ (b : Bool). FibersAre hs l (f ∷ without n fs) (if b then gs else g ∷ without n gs))
          (sym (same ∙ e)) (a.0, i.others));
      count = λ j. subst (λ (b : Bool). uses j q.kept + uses_in j (if b then gs else g ∷ without n gs)
          ≡ uses_in j (g ∷ gs)) (sym (same ∙ e)) (omega (arith, i.count j));
      fewer = subst (λ (b : Bool). length (if b then gs else g ∷ without n gs) + 1 ≡ length (g ∷ gs)) (sym (same ∙ e))
          (omega (arith, i.fewer));
      lighter = subst (λ (b : Bool). waiting (if b then fs else f ∷ without n fs) + 1 + weights d.kept.items
          ≡ waiting (f ∷ fs)) (sym e) (omega (arith, i.lighter));
    })

-- Where both sides go on in another fiber, of those that waited.
pub record OnwardIs (hs : List Site) (l : List Registers) (fs : List (Fiber Kept)) (gs : List (Fiber (List Level)))
    (o : Onward Kept) (q : Onward (List Level)) : Type 0 where
  pub fibers : AllFibers hs o.fibers.running l o.fibers q.fibers
  pub some : 0 < length q.kept
  pub waits : Waits hs o.fibers.running l o.kept.items o.kept.place q.kept
  pub count : (i : ℕ) → uses i q.kept + uses_in i q.fibers.others ≡ uses_in i gs
  pub fewer : length q.fibers.others + 1 ≡ length gs
  pub lighter : waiting o.fibers.others + 1 + weights o.kept.items ≡ waiting fs

pub data Onwards (hs : List Site) (l : List Registers) (fs : List (Fiber Kept)) (gs : List (Fiber (List Level)))
    (x : Option (Onward Kept)) (y : Option (Onward (List Level))) : Type 0 where
  nowhere : x ≡ None → y ≡ None → Onwards hs l fs gs x y
  onward : (o : Onward Kept) (q : Onward (List Level)) → x ≡ Some o → y ≡ Some q → OnwardIs hs l fs gs o q
      → Onwards hs l fs gs x y

back_alike : (hs : List Site) (l : List Registers) (fs : List (Fiber Kept)) (gs : List (Fiber (List Level)))
    (r : Option Name) → FibersAre hs l fs gs → Onwards hs l fs gs (back_to fs r) (back_to gs r)
back_alike hs l fs gs None a = nowhere refl refl
back_alike hs l fs gs (Some n) a = at (found_alike hs l n fs gs a)
  where
    onto : Fiber Kept → List (Fiber Kept) → Onward Kept
    onto f others = record {
      kept = f.kept;
      fibers = record { running = f.name; resumer = f.resumer; others = others };
    }

    onto_too : Fiber (List Level) → List (Fiber (List Level)) → Onward (List Level)
    onto_too f others = record {
      kept = f.kept;
      fibers = record { running = f.name; resumer = f.resumer; others = others };
    }

    at : Found hs l n fs gs → Onwards hs l fs gs (back_to fs (Some n)) (back_to gs (Some n))
    at (neither p q) = nowhere (ap (back_in fs) p) (ap (back_in gs) q)
    at (both f q i) = onward (onto f (without n fs)) (onto_too q (without n gs))
        (ap (back_in fs) i.found ∙ ap (λ (m : Name). Some (onto f (without m fs))) (sym i.name))
        (ap (back_in gs) i.found_too
        ∙ ap (λ (m : Name). Some (onto_too q (without m gs))) (i.is.name ∙ sym i.name)) (record {
          fibers = record {
            running = refl;
            running_too = i.is.name;
            resumer = i.is.resumer;
            rooted = i.is.rooted;
            others = i.others;
          };
          some = i.is.some;
          waits = i.is.waits;
          count = i.count;
          fewer = i.fewer;
          lighter = i.lighter;
        })

-- the end of the fiber that runs
pub finished : (hs : List Site) (name : Name) (l : List Registers) (fs : Fibers Kept) (gs : Fibers (List Level))
    → AllFibers hs name l fs gs → Onwards hs l fs.others gs.others (finish fs) (finish gs)
unfolding finish
finished hs name l fs gs a =
    subst (λ (r : Option Name). Onwards hs l fs.others gs.others (back_to fs.others fs.resumer) (back_to gs.others r))
    (sym a.resumer) (back_alike hs l fs.others gs.others fs.resumer a.others)

-- What a resume comes to: a failure, a fiber that begins, or one that goes on, beside those that wait.
pub data Resumes (hs : List Site) (l : List Registers) (fs : List (Fiber Kept)) (gs : List (Fiber (List Level)))
    (x : Resumed Kept) (y : Resumed (List Level)) : Type 0 where
  refuses : (c : Cause) → x ≡ refused c → y ≡ refused c → Resumes hs l fs gs x y
  starts : (b : ObjId) (d : Fibers Kept) (e : Fibers (List Level)) → x ≡ begins b d → y ≡ begins b e
      → AllFibers hs d.running l d e → d.others ≡ fs → e.others ≡ gs → Resumes hs l fs gs x y
  goes_on : (o : Onward Kept) (q : Onward (List Level)) → x ≡ continues o → y ≡ continues q
      → OnwardIs hs l fs gs o q → Resumes hs l fs gs x y

-- The fiber that runs is put aside, and another one is resumed, or goes on after its resume.

module _ (hs : List Site) (name : Name) (l : List Registers) (fs : Fibers Kept) (gs : Fibers (List Level))
    (a : AllFibers hs name l fs gs) (kept : Kept) (ls : List Level) (some : 0 < length ls)
    (waits : Waits hs name l kept.items kept.place ls) where
  aside : (w : Wait) → FibersAre hs l (put_aside fs w kept) (put_aside gs w ls)
  aside w = (
    record {
      name = a.running_too ∙ sym a.running;
      wait = refl;
      resumer = a.resumer;
      rooted = λ e. a.rooted (sym a.running ∙ e);
      some = some;
      waits = subst (λ (n : Name). Waits hs n l kept.items kept.place ls) (sym a.running) waits;
    },
    a.others,
  )

  abbrev IsResumed : Resumed Kept → Resumed (List Level) → Type 0
  IsResumed x y = Resumes hs l (put_aside fs resuming kept) (put_aside gs resuming ls) x y

  -- a yield
  pub yielded : Onwards hs l (put_aside fs suspended kept) (put_aside gs suspended ls) (yield fs kept) (yield gs ls)
  unfolding yield
  yielded =
      subst (λ (r : Option Name). Onwards hs l (put_aside fs suspended kept) (put_aside gs suspended ls)
      (back_to (put_aside fs suspended kept) fs.resumer) (back_to (put_aside gs suspended ls) r)) (sym a.resumer)
      (back_alike hs l (put_aside fs suspended kept) (put_aside gs suspended ls) fs.resumer (aside suspended))

  module _ (st : Store) (f : ObjId) where
    abbrev started : Fibers Kept
    started = record { running = object f; resumer = Some fs.running; others = put_aside fs resuming kept }

    abbrev started_too : Fibers (List Level)
    started_too = record { running = object f; resumer = Some gs.running; others = put_aside gs resuming ls }

    resumers : Some gs.running ≡ Some fs.running
    resumers = ap Some (a.running_too ∙ sym a.running)

    -- a fiber that waits, if it isn't the one that runs
    found : (block : ObjId) → same_name (object f) fs.running ≡ false
        → Found hs l (object f) (put_aside fs resuming kept) (put_aside gs resuming ls)
        → IsResumed (resume_by fs kept f block (wait_of (fiber_named (object f) fs.others)) (fiber_named (object f) fs.others))
        (resume_by gs ls f block (wait_of (fiber_named (object f) gs.others)) (fiber_named (object f) gs.others))
    found block e (neither p q) =
        starts block started started_too
        (ap (λ (o : Option (Fiber Kept)). resume_by fs kept f block (wait_of o) o) (others_of e ∙ p))
        (ap (λ (o : Option (Fiber (List Level))). resume_by gs ls f block (wait_of o) o) (others_of_too e ∙ q)) (record {
          running = refl;
          running_too = refl;
          resumer = resumers;
          rooted = λ r. absurd (cc r);
          others = aside resuming;
        }) refl refl
      where
        others_of : same_name (object f) fs.running ≡ false
            → fiber_named (object f) fs.others ≡ fiber_named (object f) (put_aside fs resuming kept)
        others_of e = sym (ap (λ (b : Bool). if b
            then Some (record { name = fs.running; wait = resuming; resumer = fs.resumer; kept = kept })
            else fiber_named (object f) fs.others) e)

        others_of_too : same_name (object f) fs.running ≡ false
            → fiber_named (object f) gs.others ≡ fiber_named (object f) (put_aside gs resuming ls)
        others_of_too e = sym (ap (λ (b : Bool). if b
            then Some (record { name = gs.running; wait = resuming; resumer = gs.resumer; kept = ls })
            else fiber_named (object f) gs.others)
            (ap (same_name (object f)) (a.running_too ∙ sym a.running) ∙ e))
    found block e (both d q i) = by d.wait refl
      where
        left : fiber_named (object f) fs.others ≡ Some d
        left = sym (ap (λ (b : Bool). if b
            then Some (record { name = fs.running; wait = resuming; resumer = fs.resumer; kept = kept })
            else fiber_named (object f) fs.others) e) ∙ i.found

        right : fiber_named (object f) gs.others ≡ Some q
        right = sym (ap (λ (b : Bool). if b
            then Some (record { name = gs.running; wait = resuming; resumer = gs.resumer; kept = ls })
            else fiber_named (object f) gs.others)
            (ap (same_name (object f)) (a.running_too ∙ sym a.running) ∙ e)) ∙ i.found_too

        by : (w : Wait) → d.wait ≡ w
            → IsResumed
            (resume_by fs kept f block (wait_of (fiber_named (object f) fs.others)) (fiber_named (object f) fs.others))
            (resume_by gs ls f block (wait_of (fiber_named (object f) gs.others)) (fiber_named (object f) gs.others))
        by resuming z = refuses cause.DoubleResume
            (ap (λ (o : Option (Fiber Kept)). resume_by fs kept f block (wait_of o) o) left
            ∙ ap (λ (w : Wait). resume_by fs kept f block w (Some d)) z)
            (ap (λ (o : Option (Fiber (List Level))). resume_by gs ls f block (wait_of o) o) right
            ∙ ap (λ (w : Wait). resume_by gs ls f block w (Some q)) (i.is.wait ∙ z))
        by suspended z = goes_on (record {
          kept = d.kept;
          fibers = record {
            running = object f;
            resumer = Some fs.running;
            others = without (object f) (put_aside fs resuming kept);
          };
        }) (record {
          kept = q.kept;
          fibers = record {
            running = object f;
            resumer = Some gs.running;
            others = without (object f) (put_aside gs resuming ls);
          };
        })
            (ap (λ (o : Option (Fiber Kept)). resume_by fs kept f block (wait_of o) o) left
            ∙ ap (λ (w : Wait). resume_by fs kept f block w (Some d)) z)
            (ap (λ (o : Option (Fiber (List Level))). resume_by gs ls f block (wait_of o) o) right
            ∙ ap (λ (w : Wait). resume_by gs ls f block w (Some q)) (i.is.wait ∙ z)) (record {
              fibers = record {
                running = refl;
                running_too = refl;
                resumer = resumers;
                rooted = λ r. absurd (cc r);
                others = i.others;
              };
              some = i.is.some;
              waits = subst (λ (n : Name). Waits hs n l d.kept.items d.kept.place q.kept) (sym i.name) i.is.waits;
              count = i.count;
              fewer = i.fewer;
              lighter = i.lighter;
            })

    other : (block : ObjId) (t : Bool) → same_name (object f) fs.running ≡ t
        → IsResumed (if t then refused cause.DoubleResume else resume_by fs kept f block
        (wait_of (fiber_named (object f) fs.others)) (fiber_named (object f) fs.others))
        (if t then refused cause.DoubleResume else resume_by gs ls f block (wait_of (fiber_named (object f) gs.others))
        (fiber_named (object f) gs.others))
    other block true e = refuses cause.DoubleResume refl refl
    other block false e = found block e
        (found_alike hs l (object f) (put_aside fs resuming kept) (put_aside gs resuming ls) (aside resuming))

    alive : (block : ObjId) (dead : Bool)
        → IsResumed (resume_fiber fs kept f (Some (block, dead))) (resume_fiber gs ls f (Some (block, dead)))
    alive block true = refuses cause.DeadFiber refl refl
    alive block false =
        subst (λ (t : Bool). IsResumed (if same_name (object f) fs.running then refused cause.DoubleResume
        else resume_by fs kept f block (wait_of (fiber_named (object f) fs.others)) (fiber_named (object f) fs.others))
        (if t then refused cause.DoubleResume else resume_by gs ls f block (wait_of (fiber_named (object f) gs.others))
        (fiber_named (object f) gs.others)))
        (sym (ap (same_name (object f)) (a.running_too ∙ sym a.running)))
        (other block (same_name (object f) fs.running) refl)

    pub resumed : Resumes hs l (put_aside fs resuming kept) (put_aside gs resuming ls) (resume fs kept st f)
        (resume gs ls st f)
    unfolding resume
    resumed = by (fiber_of (kind_in st.objects (Obj f)))
      where
        by : (o : Option (ObjId × Bool)) → IsResumed (resume_fiber fs kept f o) (resume_fiber gs ls f o)
        by None = refuses cause.DeadFiber refl refl
        by (Some b) = alive b.0 b.1

-- Another fiber goes on.

abbrev pub ground_in : Ground → Onward Kept → List Level → Ground
ground_in g o ls = record { sites = g.sites; fiber = o.fibers.running; below = ls }

pub switched : (s : Source) (p : Program) (g : Ground) (m : source.Memory) (k : machine.Memory) (fs : List (Fiber Kept))
    (gs : List (Fiber (List Level))) (o : Onward Kept) (q : Onward (List Level)) (w u : World)
    → SitesAre s p g.sites m.scopes k.lists m.world → ((n : ℕ) → uses_in n gs ≤ 1) → OnwardIs g.sites k.lists fs gs o q
    → Grows m.world w → u ≡ w
    → Both s p (ground_in g o q.kept) (record m { place = o.kept.place; fibers = o.fibers; world = w })
    (record k { fibers = q.fibers; world = u })
switched s p g m k fs gs o q w u sites apart i grows e = record {
  world = e;
  sites = sites_grow s p g.sites m.scopes k.lists m.world w grows sites;
  fibers = i.fibers;
  apart = λ n. omega (arith, i.count n, apart n);
}
