-- What a call enters.
use Rattle.std.proofs.Common.{◌≡◌, ℕ, ◌+◌, ◌<◌, ◌≤◌, List, [], ◌∷◌, ◌++◌, length, true, false, sym, ap, ◌∙◌, subst, arith, inl, inr, length-append}
use Rattle.std.specs.Prelude.{Option, Some, None, if◌then◌else◌}
use Rattle.rb_value.specs.declared.value.Value.TheVariants.{Nil}
use Rattle.rb_value.specs.declared.value.ObjId.{ObjId}
use Rattle.def_core.specs.declared.cause.Cause.TheVariants as cause
use Rattle.def_core.specs.Sound.{census, ClassOrModule, Proc, Is, IsSymbol, IsValue, OptionIs}
use Rattle.rite_code.specs.Code.{Program, IsWhole}
use Rattle.code_outline.specs.Makers.{outer}
use Rattle.code_verifier.specs.Verified.{IsVerified}
use Rattle.def_calls.specs.World.{World, Activation, Answer, next_activation, with_activation, fail}
use Rattle.def_calls.specs.Calls.{Opening, Entry, answers, enters, begins, is_full, settle}
use Rattle.def_calls.specs.Plans.{Iteration}
use Rattle.def_machine.specs.State.{Registers, Level, Memory, with_world}
use Rattle.def_machine.specs.Entering.{depth, first_of, answer, open_frame, open_iteration, enter}
use Rattle.def_machine.specs.Fits.{IsListOf, ProcFits, Fits}
use Rattle.world_laws.specs.Fine.{Extends, Keeps}
use Rattle.world_laws.specs.Outcomes.{AnswerIs, OpensBody, OpensIn, OpeningIs, StateIs, EntryIs}
use Rattle.world_laws.proofs.Answers.{fails_with, answer_then}
use Rattle.world_laws.proofs.Ending.{settle_keeps}
use Rattle.world_laws.proofs.Growing.{value_stays, role_stays, symbol_stays, classes_number_stays, all_stay, option_stays}
use Rattle.world_laws.proofs.Standing.{keeps_then, run_stays}
use Rattle.world_laws.proofs.Worlds.{keeps_activation}
use Rattle.machine_laws.specs.Levels.{WaitsWell}
use Rattle.machine_laws.proofs.Alike.{state_fits}
use Rattle.machine_laws.proofs.Answering.{result_stays, answered, waits_in_world}
use Rattle.machine_laws.proofs.Later.{state_later}
use Rattle.machine_laws.proofs.Opening.{opened_number, opens, iterates}
use Rattle.machine_laws.proofs.Worlds.{bodies}

-- a body that is opened is there, and so is the list around it
pub record Around (p : Program) (ls : List Registers) (body : ℕ) (scopes : List ℕ) : Type 0 where
  pub there : body < length p.bodies
  pub list : IsListOf p ls (first_of scopes) (outer p body)

around_of : (p : Program) (ls : List Registers) (w : World) (body : ℕ) (scopes : List ℕ) (classes : ℕ)
    → OpensBody (bodies p ls) w body scopes classes → Around p ls body scopes
around_of p ls w body scopes classes (inl h) = record {
  there = h.0.0;
  list = subst (λ (ns : List ℕ). IsListOf p ls (first_of ns) (outer p body)) (sym h.1)
      (subst (IsListOf p ls None) (sym h.0.1) tt);
}
around_of p ls w body scopes classes (inr h) =
    let c = h.0 in
    let proc : ProcFits p w ls c = h.1 in
    record {
      there = subst (λ (n : ℕ). n < length p.bodies) h.2 proc.body;
      list = subst (λ (ns : List ℕ). IsListOf p ls (first_of ns) (outer p body)) h.3
          (subst (λ (n : ℕ). IsListOf p ls (first_of c.scopes) (outer p n)) h.2 proc.around);
    }

-- an activation that is opened in a later world
opens_later : (w v : World) (a : Activation) → Extends w v → OpensIn w a → OpensIn v a
opens_later w v a e h =
    let acts : length v.activations ≡ length w.activations + length e.activations.more =
    ap length e.activations.same ∙ length-append w.activations e.activations.more in
    let one : length (w.activations ++ a ∷ []) ≡ length w.activations + 1 = rw length-append (omega arith) in
    let two : length (v.activations ++ a ∷ []) ≡ length v.activations + 1 = rw length-append (omega arith) in
    let more : length (with_activation w a).activations ≤ length (with_activation v a).activations =
    omega (arith, acts, one, two) in
    record {
      runs = run_stays w v e a.self a.runs h.runs;
      self = value_stays w v e a.self h.self;
      owner = option_stays (Is (census w.store) ClassOrModule) (Is (census v.store) ClassOrModule)
          (role_stays w v e ClassOrModule) a.owner h.owner;
      name = option_stays (IsSymbol (census w.store)) (IsSymbol (census v.store)) (symbol_stays w v e) a.name h.name;
      home = (h.home.0, omega (arith, h.home.1, more));
      classes = classes_number_stays w v e a.classes h.classes;
      block = option_stays (Is (census w.store) Proc) (Is (census v.store) Proc)
          (role_stays w v e Proc) a.block h.block;
    }

module _ (p : Program) (whole : IsWhole p) (verified : IsVerified p) (ls : List Level) (m : Memory)
    (h : WaitsWell p ls m) where
  -- a call whose block argument is settled
  settled : (w : World) (block : Option ObjId) (target : Option ℕ) → Keeps (bodies p m.lists) m.world w
      → OptionIs (Is (census m.world.store) Proc) block → Keeps (bodies p m.lists) w (settle w block target)
  settled w block target k is =
      settle_keeps (bodies p m.lists) w k.fine block target (option_stays (Is (census m.world.store) Proc)
      (Is (census w.store) Proc) (role_stays m.world w k.extends Proc) block is)

  -- the fiber has too many activations
  too_deep : (w : World) (block : Option ObjId) → Keeps (bodies p m.lists) m.world w
      → OptionIs (Is (census m.world.store) Proc) block
      → Fits p (answer p (fail (settle w block None) cause.StackTooDeep) ls m)
  too_deep w block k is =
      let s = settled w block None k is in
      let all = keeps_then (bodies p m.lists) m.world w (settle w block None) k s in
      answered p whole verified (fail (settle w block None) cause.StackTooDeep) ls m h
      (answer_then (bodies p m.lists) m.world (settle w block None) (fail (settle w block None) cause.StackTooDeep) all
      (fails_with (bodies p m.lists) (settle w block None) s.fine cause.StackTooDeep tt))

  at_once : (a : Answer) (block : Option ObjId) → AnswerIs (bodies p m.lists) m.world a
      → OptionIs (Is (census m.world.store) Proc) block
      → Fits p (answer p (record a { world = settle a.world block None }) ls m)
  at_once a block is proc =
      let s = settled a.world block None is.keeps proc in
      answered p whole verified (record a { world = settle a.world block None }) ls m h
      (record {
        keeps = keeps_then (bodies p m.lists) m.world a.world (settle a.world block None) is.keeps s;
        result = result_stays a.world (settle a.world block None) s.extends a.result is.result;
      })

  framed : (o : Opening) (w u : World) → Keeps (bodies p m.lists) m.world w → Keeps (bodies p m.lists) w u
      → OpeningIs (bodies p m.lists) w o → Fits p (open_frame p o u ls m)
  framed o w u k s entry =
      let v = with_activation u o.activation in
      let in_u = opens_later w u o.activation s.extends entry.activation in
      let act = keeps_activation (bodies p m.lists) u s.fine o.activation in_u in
      let all = keeps_then (bodies p m.lists) w u v s act in
      let around = around_of p m.lists w o.body o.scopes o.activation.classes entry.body in
      opens p whole verified ls m h v (next_activation u) o.body (first_of o.scopes) o.activation.self o.arguments
      o.block o.binds
      (record {
        keeps = keeps_then (bodies p m.lists) m.world w v k all;
        activation = opened_number u o.activation;
        body = around.there;
        around = around.list;
        receiver = in_u.self;
        values = all_stay (IsValue (census w.store)) (IsValue (census v.store)) (value_stays w v all.extends)
            o.arguments entry.arguments;
        proc = option_stays (Is (census w.store) Proc) (Is (census v.store) Proc) (role_stays w v all.extends Proc)
            o.block entry.block;
      })

  begun_at : (it : Iteration) (a : Activation) (w u : World) → Keeps (bodies p m.lists) m.world w
      → Keeps (bodies p m.lists) w u → StateIs (census w.store) it → OpensIn w a
      → Fits p (open_iteration it a u ls m)
  begun_at it a w u k s state fresh =
      let v = with_activation u a in
      let act = keeps_activation (bodies p m.lists) u s.fine a (opens_later w u a s.extends fresh) in
      let all = keeps_then (bodies p m.lists) w u v s act in
      iterates p ls (with_world m v) (next_activation u) it Nil
      (waits_in_world p whole verified v ls m h (keeps_then (bodies p m.lists) m.world w v k all)) (opened_number u a)
      (state_later w v all.extends it (state_fits (census w.store) it state)) tt

  pub enters_fit : (e : Entry) (block : Option ObjId) → EntryIs (bodies p m.lists) m.world e
      → OptionIs (Is (census m.world.store) Proc) block → Fits p (enter p e block ls m)
  unfolding enter
  enters_fit (answers a) block is proc = at_once a block is proc
  enters_fit (enters o w) block is proc =
      let u = settle w block (Some (next_activation w)) in
      elim (is_full (depth ls)) as (λ b. Fits p (if b
      then answer p (fail (settle w block None) cause.StackTooDeep) ls m else open_frame p o u ls m)) [
        | true ↦ too_deep w block is.keeps proc
        | false ↦ framed o w u is.keeps (settled w block (Some (next_activation w)) is.keeps proc) is.opening
      ]
  enters_fit (begins it a w) block is proc =
      let u = settle w block (Some (next_activation w)) in
      elim (is_full (depth ls)) as (λ b. Fits p (if b
      then answer p (fail (settle w block None) cause.StackTooDeep) ls m else open_iteration it a u ls m)) [
        | true ↦ too_deep w block is.keeps proc
        | false ↦ begun_at it a w u is.keeps (settled w block (Some (next_activation w)) is.keeps proc) is.state
            is.activation
      ]
