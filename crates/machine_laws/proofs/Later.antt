-- What fits one memory fits a later one.
use Rattle.std.proofs.Common.{ℕ, ◌<◌, List, [], ◌∷◌, length, Bool, refl, sym, ◌∙◌, subst, arith}
use Rattle.std.specs.Prelude.{Some, nat_eq, if◌then◌else◌}
use Rattle.std.proofs.lemmas.Bool.{eq-eqb}
use Rattle.rb_value.specs.declared.value.ObjId.{ObjId}
use Rattle.rb_value.specs.declared.procs.ProcContents.{ProcContents}
use Rattle.rb_value.specs.declared.exit.Exit.{Exit}
use Rattle.rb_value.specs.declared.exit.Exit.TheVariants.{Raise, Return, Break, Jump}
use Rattle.rb_value.specs.declared.exit.Slot.{Slot}
use Rattle.rb_value.specs.declared.exit.Slot.TheVariants.{V, E}
use Rattle.rb_value.specs.declared.kind.Sort.TheVariants as sort
use Rattle.def_core.specs.Sound.{census, AllAre}
use Rattle.rite_code.specs.Code.{Program}
use Rattle.code_outline.specs.Makers.{outer}
use Rattle.def_calls.specs.World.{World}
use Rattle.def_calls.specs.Plans.{Iteration}
use Rattle.def_calls.specs.Fibers as fibers
use Rattle.def_machine.specs.State.{Registers, Frame, Level, frame, iteration, Memory, list_at, all_symbols}
use Rattle.def_machine.specs.Fits.{IsException, ExitFits, SlotFits, RegistersFit, KeptFits, FrameFits, StateFits, LevelFits, LevelsWait, NameFits, FiberFits, ProcFits, IsName, NamesFit, operators, holder, holders, waiting_holders}
use Rattle.def_machine.specs.Entering.{first_of}
use Rattle.world_laws.specs.Fine.{Extends}
use Rattle.world_laws.proofs.Fibers.{fiber_name_stays}
use Rattle.world_laws.proofs.Growing.{goes_there, value_stays, sort_stays, activation_number_stays, classes_number_stays, all_stay, option_stays}
use Rattle.world_laws.proofs.Plans.{values_stay, block_stays, state_stays}
use Rattle.machine_laws.specs.Growth.{ListsGrow, Grows}
use Rattle.machine_laws.proofs.Alike.{name_is, name_fits, state_is, state_fits}
use Rattle.machine_laws.proofs.Chains.{first_below, list_later, around_later}

module _ (w v : World) (e : Extends w v) where
  exception_later : (x : ObjId) → IsException (census w.store) x → IsException (census v.store) x
  exception_later x h = sort_stays w v e sort.Exception x h

  pub exit_later : (p : Program) (f : Frame) (ls : List Level) (x : Exit) → ExitFits p (census w.store) f ls x
      → ExitFits p (census v.store) f ls x
  exit_later p f ls (Raise x) h = exception_later x h
  exit_later p f ls (Return a u) h = (h.0, value_stays w v e u h.1)
  exit_later p f ls (Break a u) h = (h.0, value_stays w v e u h.1)
  exit_later p f ls (Jump a t) h = h

  slot_later : (s : Slot) → SlotFits (census w.store) s → SlotFits (census v.store) s
  slot_later (V u) h = value_stays w v e u h
  slot_later (E (Raise x)) h = exception_later x h
  slot_later (E (Return a u)) h = value_stays w v e u h
  slot_later (E (Break a u)) h = value_stays w v e u h
  slot_later (E (Jump a t)) h = tt

  kept_later : (p : Program) (f : Frame) (ls : List Level) (s : Slot) → KeptFits p (census w.store) f ls s
      → KeptFits p (census v.store) f ls s
  kept_later p f ls (V u) h = tt
  kept_later p f ls (E x) h = exit_later p f ls x h

  pub registers_later : (rs : List Registers) → AllAre (RegistersFit (census w.store)) rs
      → AllAre (RegistersFit (census v.store)) rs
  registers_later = all_stay (RegistersFit (census w.store)) (RegistersFit (census v.store))
      (λ r h. all_stay (SlotFits (census w.store)) (SlotFits (census v.store)) slot_later r.slots h)

  pub state_later : (it : Iteration) → StateFits (census w.store) it → StateFits (census v.store) it
  state_later it h = state_fits (census v.store) it (state_stays w v e it (state_is (census w.store) it h))

  pub name_later : (n : fibers.Name) → NameFits (census w.store) n → NameFits (census v.store) n
  name_later n h = name_fits (census v.store) n (fiber_name_stays w v e n (name_is (census w.store) n h))

  pub names_later : (p : Program) → NamesFit p w.store → NamesFit p v.store
  names_later p h =
      let one : (x : List ℕ) → IsName w.store.symbols x → IsName v.store.symbols x =
      λ x n. (n.0, goes_there w.store.symbols v.store.symbols e.symbols n.0 x n.1) in
      record {
        symbols = all_stay (IsName w.store.symbols) (IsName v.store.symbols) one (all_symbols p.bodies) h.symbols;
        operators = all_stay (IsName w.store.symbols) (IsName v.store.symbols) one operators h.operators;
      }

-- the contents of a Proc
pub proc_later : (p : Program) (w v : World) (ls ms : List Registers) (c : ProcContents) → Extends w v → ListsGrow ls ms
    → ProcFits p w ls c → ProcFits p v ms c
proc_later p w v ls ms c e g h = record {
  body = h.body;
  shape = h.shape;
  around = list_later p ls ms g (first_of c.scopes) (outer p c.code) h.around;
  scopes = h.scopes ∙ sym (around_later p ls ms g (first_of c.scopes) (outer p c.code) h.around);
  classes = classes_number_stays w v e c.classes h.classes;
  home = activation_number_stays w v e c.home h.home;
}

-- Levels, by the lists that they hold.

itself_held : (n : ℕ) → 0 < (if nat_eq n n then 1 else 0)
itself_held n = subst (λ (b : Bool). 0 < (if b then 1 else 0)) (sym (eq-eqb n n refl)) (omega arith)

module _ (p : Program) (m v : Memory) (Held : ℕ → Type 0) (g : Grows p m v Held) where
  pub frame_later : (f : Frame) (below : List Level) → Held f.list → FrameFits p m f below → FrameFits p v f below
  frame_later f below held h =
      let within : f.list < length m.lists =
      first_below p m.lists (length m.lists) (Some f.list) (Some f.body) h.list in
      record {
        activation = activation_number_stays m.world v.world g.world f.activation h.activation;
        body = h.body;
        list = list_later p m.lists v.lists g.lists (Some f.list) (Some f.body) h.list;
        place = h.place;
        kept = all_stay (KeptFits p (census m.world.store) f below) (KeptFits p (census v.world.store) f below)
            (kept_later m.world v.world g.world p f below) (list_at v.lists f.list).slots
            (g.exits f.list held within (census m.world.store) f below h.kept);
        pending = option_stays (ExitFits p (census m.world.store) f below) (ExitFits p (census v.world.store) f below)
            (exit_later m.world v.world g.world p f below) f.pending h.pending;
        arguments = values_stay m.world v.world g.world f.arguments h.arguments;
        block = block_stays m.world v.world g.world f.block h.block;
      }

  pub level_later : (l : Level) (below : List Level) → ((n : ℕ) → 0 < holder n l → Held n) → LevelFits p m l below
      → LevelFits p v l below
  level_later (frame f) below held h =
      frame_later f below (held f.list (itself_held f.list)) h
  level_later (iteration a it u) below held h = (
    activation_number_stays m.world v.world g.world a h.0,
    state_later m.world v.world g.world it h.1,
    value_stays m.world v.world g.world u h.2,
  )

  pub levels_later : (ls : List Level) → ((n : ℕ) → 0 < holders n ls → Held n) → LevelsWait p m ls → LevelsWait p v ls
  levels_later [] held h = tt
  levels_later (l ∷ ls) held h = (
    level_later l ls (λ n lt. held n (omega (arith, lt))) h.0,
    h.1,
    levels_later ls (λ n lt. held n (omega (arith, lt))) h.2,
  )

  fiber_later : (f : fibers.Fiber (List Level)) → ((n : ℕ) → 0 < holders n f.kept → Held n) → FiberFits p m f
      → FiberFits p v f
  fiber_later f held h = record {
    some = h.some;
    name = name_later m.world v.world g.world f.name h.name;
    resumer = option_stays (NameFits (census m.world.store)) (NameFits (census v.world.store))
        (name_later m.world v.world g.world) f.resumer h.resumer;
    levels = levels_later f.kept held h.levels;
  }

  pub fibers_later : (fs : List (fibers.Fiber (List Level))) → ((n : ℕ) → 0 < waiting_holders n fs → Held n)
      → AllAre (FiberFits p m) fs → AllAre (FiberFits p v) fs
  fibers_later [] held h = tt
  fibers_later (f ∷ fs) held h = (
    fiber_later f (λ n lt. held n (omega (arith, lt))) h.0,
    fibers_later fs (λ n lt. held n (omega (arith, lt))) h.1,
  )
