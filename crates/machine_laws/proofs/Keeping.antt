-- Exits that a register keeps, and where they are thrown from.
use Rattle.std.proofs.Common.{◌≡◌, ◌≢◌, ◌⊎◌, ℕ, ◌+◌, ◌<◌, ◌≤◌, List, [], ◌∷◌, length, Bool, true, false, refl, sym, ap, subst, arith, inl, inr, true≢false}
use Rattle.std.specs.Prelude.{Option, Some, None, nat_eq, ◌||◌, if◌then◌else◌}
use Rattle.std.proofs.lemmas.Bool.{eq-eqb, eqb-true}
use Rattle.rb_value.specs.declared.value.Value.TheVariants.{Nil}
use Rattle.rb_value.specs.declared.value.ObjId.{ObjId}
use Rattle.rb_value.specs.declared.exit.Exit.{Exit}
use Rattle.rb_value.specs.declared.exit.Exit.TheVariants.{Raise, Return, Break, Jump}
use Rattle.rb_value.specs.declared.exit.Slot.{Slot}
use Rattle.rb_value.specs.declared.exit.Slot.TheVariants.{V, E}
use Rattle.def_core.specs.Sound.{Census, census, OptionIs}
use Rattle.rite_code.specs.Code.{Program, IsWhole}
use Rattle.code_verifier.specs.Verified.{IsVerified}
use Rattle.def_calls.specs.World.{Answer, raises}
use Rattle.def_machine.specs.State.{Frame, Level, frame, iteration, Memory, On, list_at, slot_at, put, goto}
use Rattle.def_machine.specs.Unwind.{throw, after}
use Rattle.def_machine.specs.Turn.{except_slot, take_exit, go_on_if, is_under_way, leave_to}
use Rattle.def_machine.specs.Fits.{IsStart, IsUnderWay, ExitFits, SlotFits, KeptFits, holders, waiting_holders, RunsWell, Fits}
use Rattle.world_laws.specs.Outcomes.{AnswerIs}
use Rattle.world_laws.proofs.Growing.{extends_itself, all_stay}
use Rattle.machine_laws.specs.Growth.{Grows}
use Rattle.machine_laws.specs.Levels.{ExitGoes}
use Rattle.machine_laws.proofs.Answering.{jumps, throws, fails_after}
use Rattle.machine_laws.proofs.Chains.{first_below, list_later}
use Rattle.machine_laws.proofs.Frames.{kept_reshaped}
use Rattle.machine_laws.proofs.Later.{levels_later, fibers_later}
use Rattle.machine_laws.proofs.Lists.{all_get}
use Rattle.machine_laws.proofs.Throwing.{goes_from, stands_running}
use Rattle.machine_laws.proofs.Worlds.{bodies, world_later}
use Rattle.machine_laws.proofs.Writing.{put_grows, registers_put, keeps_others, slots_put}

-- an exit that fits a frame may stand in a register
exit_in_slot : (p : Program) (k : Census) (f : Frame) (ls : List Level) (x : Exit) → ExitFits p k f ls x
    → SlotFits k (E x)
exit_in_slot p k f ls (Raise e) h = h
exit_in_slot p k f ls (Return a v) h = h.1
exit_in_slot p k f ls (Break a v) h = h.1
exit_in_slot p k f ls (Jump a t) h = tt

-- a test of what is under way
this_or : (a b : ℕ) (rest : Bool) (R : Type 0) (t : Bool) → nat_eq a b ≡ t → (t || rest) ≡ true → (rest ≡ true → R)
    → (a ≡ b) ⊎ R
this_or a b rest R true e h on = inl (eqb-true a b e)
this_or a b rest R false e h on = inr (on h)

pub under_way : (ls : List Level) (a : ℕ) → is_under_way ls a ≡ true → IsUnderWay ls a
under_way [] a h = absurd (true≢false (sym h))
under_way (frame f ∷ ls) a h =
    this_or a f.activation (is_under_way ls a) (IsUnderWay ls a) (nat_eq a f.activation) refl h (under_way ls a)
under_way (iteration b it v ∷ ls) a h =
    this_or a b (is_under_way ls a) (IsUnderWay ls a) (nat_eq a b) refl h (under_way ls a)

module _ (p : Program) (whole : IsWhole p) (verified : IsVerified p) (f : Frame) (ls : List Level)
    (m : Memory) (h : RunsWell p (frame f ∷ ls) m) where
  -- no other frame has its list
  not_held : (n : ℕ) (rest : ℕ) → 0 < rest → (if nat_eq f.list n then 1 else 0) + rest ≤ 1 → n ≢ f.list
  not_held n rest some once e =
      let one : Bool → ℕ = λ b. if b then 1 else 0 in
      let t : one (nat_eq f.list n) ≡ 1 = ap one (eq-eqb f.list n (sym e)) in
      omega (arith, t, some, once)

  take_grows : (a : ℕ) (s : Slot) → Grows p m (record m { lists = put m.lists f.list a s }) (λ n. n ≢ f.list)
  take_grows a s = record {
    world = extends_itself m.world;
    lists = put_grows m.lists f.list a s;
    exits = λ j ne lt. keeps_others p m.lists f.list a s j ne;
  }

  -- the frame goes on with an exit in a register
  taken : (a next : ℕ) (s : Slot) → IsStart p f.body next → SlotFits (census m.world.store) s
      → KeptFits p (census m.world.store) f ls s
      → Fits p (On (frame (record (goto f next) { pending = None }) ∷ ls)
      (record m { lists = put m.lists f.list a s }))
  taken a next s start fits kept =
      let v = record m { lists = put m.lists f.list a s } in
      let k = census m.world.store in
      let grown = put_grows m.lists f.list a s in
      let old = h.levels.0 in
      record {
        memory = record {
          world = world_later p m.world m.lists v.lists grown h.memory.world;
          names = h.memory.names;
          registers = registers_put m.lists f.list a s k fits h.memory.registers;
          running = h.memory.running;
          resumer = h.memory.resumer;
          waiting = fibers_later p m v (λ n. n ≢ f.list) (take_grows a s) m.fibers.others
              (λ n lt. not_held n (holders n ls + waiting_holders n m.fibers.others) (omega (arith, lt))
              (omega (arith, h.apart.once n))) h.memory.waiting;
        };
        levels = (
          record {
            activation = old.activation;
            body = old.body;
            list = list_later p m.lists v.lists grown (Some f.list) (Some f.body) old.list;
            place = start;
            kept = slots_put m.lists f.list a s
                (KeptFits p k (record (goto f next) { pending = None }) ls) f.list
                (first_below p m.lists (length m.lists) (Some f.list) (Some f.body) old.list)
                (kept_reshaped p f next f.after f.waits None f.arguments ls k s kept)
                (all_stay (KeptFits p k f ls) (KeptFits p k (record (goto f next) { pending = None }) ls)
                (kept_reshaped p f next f.after f.waits None f.arguments ls k) (list_at m.lists f.list).slots old.kept);
            pending = tt;
            arguments = old.arguments;
            block = old.block;
          },
          levels_later p m v (λ n. n ≢ f.list) (take_grows a s) ls
              (λ n lt. not_held n (holders n ls + waiting_holders n m.fibers.others) (omega (arith, lt))
              (omega (arith, h.apart.once n))) h.levels.1,
        );
        apart = record { once = h.apart.once };
      }

  by_pending : (x : Option Exit) → f.pending ≡ x → (a next : ℕ) → IsStart p f.body next
      → Fits p (On (frame (record (goto f next) { pending = None }) ∷ ls)
      (record m { lists = put m.lists f.list a (except_slot x) }))
  by_pending None e a next start = taken a next (V Nil) start tt tt
  by_pending (Some x) e a next start =
      let fits : ExitFits p (census m.world.store) f ls x =
      subst (OptionIs (ExitFits p (census m.world.store) f ls)) e h.levels.0.pending in
      taken a next (E x) start (exit_in_slot p (census m.world.store) f ls x fits) fits

  pub excepts : (a next : ℕ) → IsStart p f.body next → Fits p (take_exit a next f ls m)
  excepts a next start = by_pending f.pending refl a next start

  -- an exit that the frame keeps, or comes to by itself
  pub leaves_by : (x : Exit) → ExitGoes p (census m.world.store) (frame f ∷ ls) x → Fits p (throw p x (frame f ∷ ls) m)
  leaves_by x goes = throws p whole verified x (frame f ∷ ls) m (stands_running p (frame f) ls m h) goes

  resumes_by : (s : Slot) (next : ℕ) → IsStart p f.body next → KeptFits p (census m.world.store) f ls s
      → Fits p (go_on_if p s next f ls m)
  resumes_by (V v) next start kept = jumps p whole verified next f ls m h start
  resumes_by (E x) next start kept = leaves_by x (goes_from p (census m.world.store) f ls x kept)

  pub raises_if : (a next : ℕ) → IsStart p f.body next → Fits p (go_on_if p (slot_at m.lists f.list a) next f ls m)
  unfolding slot_at
  raises_if a next start =
      resumes_by (slot_at m.lists f.list a) next start
      (all_get (KeptFits p (census m.world.store) f ls) (list_at m.lists f.list).slots (V Nil) a h.levels.0.kept tt)

  -- a leave to an activation that is under way, or a failure
  pub leaves_to : (exit : ℕ → Exit) (failure : Answer) (e : ObjId) (to : Option ℕ) (next : ℕ)
      → ((a : ℕ) → IsUnderWay (frame f ∷ ls) a → ExitGoes p (census m.world.store) (frame f ∷ ls) (exit a))
      → failure.result ≡ raises e → AnswerIs (bodies p m.lists) m.world failure
      → Fits p (leave_to p exit failure to next f ls m)
  leaves_to exit failure e None next goes same is =
      fails_after p whole verified failure e 0 next f ls m same h is
  leaves_to exit failure e (Some a) next goes same is =
      elim (is_under_way (frame f ∷ ls) a) as (λ b. is_under_way (frame f ∷ ls) a ≡ b
      → Fits p (if b then throw p (exit a) (frame f ∷ ls) m else after p failure 0 next f ls m)) [
        | true ↦ λ t. leaves_by (exit a) (goes a (under_way (frame f ∷ ls) a t))
        | false ↦ λ t. fails_after p whole verified failure e 0 next f ls m same h is
      ] refl
