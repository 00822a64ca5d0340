-- Instructions that make Procs, define methods, and open classes.
use Rattle.std.proofs.Common.{◌≡◌, ℕ, suc, ◌+◌, ◌<◌, List, [], ◌∷◌, ◌++◌, length, Bool, true, false, refl, sym, ap, ◌∙◌, subst, arith, length-append}
use Rattle.std.specs.Prelude.{Option, Some, None, codes, if◌then◌else◌}
use Rattle.rb_value.specs.declared.value.Value.TheVariants.{Obj}
use Rattle.rb_value.specs.declared.value.ObjId.{ObjId}
use Rattle.rb_value.specs.declared.value.SymId.{SymId}
use Rattle.def_core.specs.declared.bound.BindKind.TheVariants as bind
use Rattle.def_core.specs.declared.cause.Cause.TheVariants as cause
use Rattle.def_core.specs.Sound.{census, Any, ClassOrModule, Is, IsSymbol, IsValue}
use Rattle.def_core.proofs.Good.{is_good}
use Rattle.rite_code.specs.Code.{Program, IsWhole}
use Rattle.rite_code.specs.declared.code.Irep.{Irep}
use Rattle.code_outline.specs.declared.maker.Purpose.{Purpose}
use Rattle.code_outline.specs.declared.maker.Purpose.TheVariants as purpose
use Rattle.code_outline.specs.Makers.{around, outer, is_function}
use Rattle.code_verifier.specs.Verified.{IsVerified}
use Rattle.code_instructions.specs.Fine.{IsMade}
use Rattle.def_calls.specs.World.{Answer, fail, next_activation}
use Rattle.def_calls.specs.Calls.{with_class_body, class_activation, is_full}
use Rattle.def_calls.specs.Definitions.{space_in, with_space, define_method}
use Rattle.def_calls.specs.Values.{wrong_value}
use Rattle.def_machine.specs.State.{Frame, Level, frame, Memory, On, body_at, fresh_registers}
use Rattle.def_machine.specs.Turn.{reg, running, waits_in, lists_around, make_proc, within, execute, around as class_of_text}
use Rattle.def_machine.specs.Entering.{depth, answer, class_frame, open_class_body}
use Rattle.def_machine.specs.Unwind.{after}
use Rattle.def_machine.specs.Fits.{IsListOf, IsActivation, ActivationFits, IsStart, RunsWell, Fits}
use Rattle.world_laws.specs.Fine.{Fine}
use Rattle.world_laws.specs.Outcomes.{AnswerIs}
use Rattle.world_laws.proofs.Answers.{fails_with}
use Rattle.world_laws.proofs.Classes.{define_method_is}
use Rattle.world_laws.proofs.Constants.{class_around_is}
use Rattle.world_laws.proofs.Ending.{class_body_keeps}
use Rattle.world_laws.proofs.Growing.{role_stays}
use Rattle.world_laws.proofs.Values.{wrong_value_is}
use Rattle.machine_laws.proofs.Answering.{afters, answered}
use Rattle.machine_laws.proofs.Calling.{waits_for}
use Rattle.machine_laws.proofs.Chains.{first_below, around_upto}
use Rattle.machine_laws.proofs.Given.{proc_made, space_there}
use Rattle.machine_laws.proofs.Opening.{opens}
use Rattle.machine_laws.proofs.Reading.{reg_fits, running_fits}
use Rattle.machine_laws.proofs.Worlds.{bodies, fine_world, activation_fine}

-- the body around one that is made
outer_made : (p : Program) (k i body : ℕ) (b : Irep) (u : Purpose) → IsMade p k b i body u
    → outer p body ≡ (if is_function u then Some k else None)
outer_made p k i body b u made = ap around made.maker

module _ (p : Program) (whole : IsWhole p)
    (verified : IsVerified p) (f : Frame) (ls : List Level) (m : Memory) (h : RunsWell p (frame f ∷ ls) m)
    (next : ℕ) (start : IsStart p f.body next) where
  fine : Fine (bodies p m.lists) m.world
  fine = fine_world p m.lists m.world h.memory.world

  active : ActivationFits m.world (running f m)
  active = running_fits p m f.activation h.memory h.levels.0.activation

  pub procs : (b i : ℕ) (u : Purpose) (lambda : Bool) (a : ℕ) → IsMade p f.body (body_at p f.body) i b u
      → is_function u ≡ true → Fits p (after p (make_proc p f m b lambda) a next f ls m)
  unfolding make_proc
  procs b i u lambda a made function =
      let act = running f m in
      let list = h.levels.0.list in
      let low = first_below p m.lists (length m.lists) (Some f.list) (Some f.body) list in
      let out : outer p b ≡ Some f.body =
      outer_made p f.body i b (body_at p f.body) u made ∙ ap (λ (t : Bool). if t then Some f.body else None) function in
      let scopes : lists_around (suc f.list) m.lists (Some f.list)
      ≡ lists_around (length m.lists) m.lists (Some f.list) =
      sym (around_upto p m.lists (suc f.list) (length m.lists) (length m.lists) (Some f.list) (Some f.body) low list
      (omega arith)) in
      afters p whole verified (make_proc p f m b lambda) a next f ls m h start
      (proc_made p m.lists m.world fine _
      (record { receiver = active.self; owner = active.owner; name = active.name; block = active.block })
      (record {
        body = made.there;
        shape = refl;
        around = subst (IsListOf p m.lists (Some f.list)) (sym out) list;
        scopes = scopes;
        classes = active.classes;
        home = active.home;
      }))

  -- an instruction that wants a class
  pub wants : (instruction : List ℕ) (a : ℕ) (change : ObjId → Answer)
      → ((c : ObjId) → Is (census m.world.store) ClassOrModule c → AnswerIs (bodies p m.lists) m.world (change c))
      → AnswerIs (bodies p m.lists) m.world (within f m instruction a change)
  wants instruction a change is =
      found (space_in m.world.store.objects (reg f m a)) refl
    where
      found : (o : Option ObjId) → space_in m.world.store.objects (reg f m a) ≡ o
          → AnswerIs (bodies p m.lists) m.world (with_space m.world instruction (reg f m a) o change)
      found None e = wrong_value_is (bodies p m.lists) m.world fine instruction
      found (Some c) e = is c (space_there p m.lists m.world fine (reg f m a) c (reg_fits p m h.memory f a) e)

  pub defines : (a b i : ℕ) (name : SymId) → IsSymbol (census m.world.store) name
      → IsMade p f.body (body_at p f.body) i b purpose.Method
      → Fits p (after p (within f m (codes "DEF") a (λ d. define_method m.world d name b (running f m).classes))
      a next f ls m)
  defines a b i name is made =
      afters p whole verified _ a next f ls m h start
      (wants (codes "DEF") a (λ d. define_method m.world d name b (running f m).classes) (λ c there.
      define_method_is (bodies p m.lists) m.world fine c name b (running f m).classes there is
      (made.there, outer_made p f.body i b (body_at p f.body) purpose.Method made, active.classes)))

  -- the class around the text
  pub class_there : Is (census m.world.store) ClassOrModule (class_of_text f m)
  class_there = class_around_is (bodies p m.lists) m.world fine (running f m).classes

  pub class_value : IsValue (census m.world.store) (Obj (class_of_text f m))
  class_value = (is_good m.world.store ClassOrModule (class_of_text f m) class_there).there

  -- The body of a class.

  class_active : (k : ObjId) → IsActivation (with_class_body m.world (running f m) k) (next_activation m.world)
  unfolding with_class_body
  class_active k =
      let n : length (m.world.activations ++ class_activation m.world (running f m) k ∷ [])
      ≡ length m.world.activations + 1 = rw length-append (omega arith) in
      (omega arith, omega (arith, n))

  opens_body : (b : ℕ) (k : ObjId) (a : ℕ) → a < (body_at p f.body).registers → b < length p.bodies → outer p b ≡ None
      → Is (census m.world.store) ClassOrModule k
      → Fits p (On (frame (class_frame b m) ∷ frame (waits_in a next f) ∷ ls) (record m {
        lists = m.lists ++ fresh_registers (body_at p b) None (Obj k) ∷ [];
        world = with_class_body m.world (running f m) k;
      }))
  opens_body b k a below there out is =
      let v = with_class_body m.world (running f m) k in
      let act = running f m in
      let kept = class_body_keeps (bodies p m.lists) m.world fine act k (activation_fine m.world act active) is in
      let any : Is (census m.world.store) Any k = (is_good m.world.store ClassOrModule k is).there in
      opens p whole verified (frame (waits_in a next f) ∷ ls) m (waits_for p f ls m a next h start below) v
      (next_activation m.world) b None (Obj k) [] None bind.Method (record {
        keeps = kept;
        activation = class_active k;
        body = there;
        around = subst (IsListOf p m.lists None) (sym out) tt;
        receiver = role_stays m.world v kept.extends Any k any;
        values = tt;
        proc = tt;
      })

  opened : (b : ℕ) (k : ObjId) (a : ℕ) → a < (body_at p f.body).registers → b < length p.bodies → outer p b ≡ None
      → Is (census m.world.store) ClassOrModule k
      → Fits p (open_class_body p b k (running f m) (frame (waits_in a next f) ∷ ls) m)
  opened b k a below there out is =
      let us = frame (waits_in a next f) ∷ ls in
      elim (is_full (depth us)) as (λ t. Fits p (if t then answer p (fail m.world cause.StackTooDeep) us m
      else On (frame (class_frame b m) ∷ us) (record m {
        lists = m.lists ++ fresh_registers (body_at p b) None (Obj k) ∷ [];
        world = with_class_body m.world (running f m) k;
      }))) [
        | true ↦ answered p whole verified (fail m.world cause.StackTooDeep) us m
            (waits_for p f ls m a next h start below) (fails_with (bodies p m.lists) m.world fine cause.StackTooDeep tt)
        | false ↦ opens_body b k a below there out is
      ]

  pub executes : (a b i : ℕ) → a < (body_at p f.body).registers
      → IsMade p f.body (body_at p f.body) i b purpose.ClassBody
      → Fits p (execute p b (space_in m.world.store.objects (reg f m a)) a next f ls m)
  executes a b i below made = found (space_in m.world.store.objects (reg f m a)) refl
    where
      found : (o : Option ObjId) → space_in m.world.store.objects (reg f m a) ≡ o → Fits p (execute p b o a next f ls m)
      found None e =
          afters p whole verified (wrong_value m.world (codes "EXEC")) a next f ls m h start
          (wrong_value_is (bodies p m.lists) m.world fine (codes "EXEC"))
      found (Some k) e =
          opened b k a below made.there (outer_made p f.body i b (body_at p f.body) purpose.ClassBody made)
          (space_there p m.lists m.world fine (reg f m a) k (reg_fits p m h.memory f a) e)
