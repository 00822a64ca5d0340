-- A frame or an iteration that begins over levels that wait.
use Rattle.std.proofs.Common.{◌≡◌, ℕ, zero, suc, ◌+◌, ◌<◌, ◌≤◌, List, [], ◌∷◌, ◌++◌, length, replicate, Bool, true, false, refl, sym, ap, ◌∙◌, subst, arith, length-append, length-set}
use Rattle.std.specs.Prelude.{Option, Some, nat_eq, if◌then◌else◌}
use Rattle.std.proofs.lemmas.Bool.{eqb-true, ne_eqb}
use Rattle.std.proofs.lemmas.List.{get_or_push, length-replicate}
use Rattle.rb_value.specs.declared.value.Value.{Value}
use Rattle.rb_value.specs.declared.value.Value.TheVariants.{Nil}
use Rattle.rb_value.specs.declared.value.ObjId.{ObjId}
use Rattle.rb_value.specs.declared.exit.Slot.{Slot}
use Rattle.rb_value.specs.declared.exit.Slot.TheVariants.{V}
use Rattle.def_core.specs.declared.bound.BindKind.{BindKind}
use Rattle.def_core.specs.Sound.{census, Proc, Is, IsValue, OptionIs, AllAre}
use Rattle.def_core.proofs.PartsSound.{all_set}
use Rattle.rite_code.specs.Code.{Program, IsWhole}
use Rattle.rite_code.specs.declared.code.Irep.{Irep}
use Rattle.code_outline.specs.Makers.{outer}
use Rattle.code_verifier.specs.Verified.{IsVerified}
use Rattle.def_calls.specs.World.{World, Activation, next_activation, with_activation}
use Rattle.def_calls.specs.Plans.{Iteration}
use Rattle.def_calls.specs.Fibers as fibers
use Rattle.def_machine.specs.State.{Registers, Frame, Level, frame, iteration, Memory, On, body_at, list_at, no_registers, fresh_registers, begun_frame, with_world}
use Rattle.def_machine.specs.Fits.{IsBelow, ListFits, IsListOf, SlotFits, KeptFits, IsActivation, FrameFits, StateFits, LevelsWait, FiberFits, holder, holders, waiting_holders, AreApart, Fits}
use Rattle.world_laws.specs.Fine.{Keeps}
use Rattle.machine_laws.specs.Levels.{WaitsWell}
use Rattle.machine_laws.proofs.Chains.{first_below, fits_later}
use Rattle.machine_laws.proofs.Codes.{begins}
use Rattle.machine_laws.proofs.Memories.{kept_world, list_pushed, waits_still}
use Rattle.machine_laws.proofs.Worlds.{bodies}
use Rattle.machine_laws.proofs.Writing.{push_grows}

-- Lists that frames hold are there, so a new one is held by none.

held_below : (p : Program) (m : Memory) (n : ℕ) → length m.lists ≤ n → (f : Frame) (below : List Level)
    → FrameFits p m f below → holder n (frame f) ≡ 0
held_below p m n le f below h =
    let within : f.list < length m.lists =
    first_below p m.lists (length m.lists) (Some f.list) (Some f.body) h.list in
    let count : Bool → ℕ = λ b. if b then 1 else 0 in
    ap count (ne_eqb f.list n (λ e. omega (arith, e, within, le)))

unheld : (p : Program) (m : Memory) (n : ℕ) → length m.lists ≤ n → (ls : List Level) → LevelsWait p m ls
    → holders n ls ≡ 0
unheld p m n le [] h = refl
unheld p m n le (frame f ∷ ls) h = omega (arith, held_below p m n le f ls h.0, unheld p m n le ls h.2)
unheld p m n le (iteration a it v ∷ ls) h = omega (arith, unheld p m n le ls h.2)

unheld_waiting : (p : Program) (m : Memory) (n : ℕ) → length m.lists ≤ n → (fs : List (fibers.Fiber (List Level)))
    → AllAre (FiberFits p m) fs → waiting_holders n fs ≡ 0
unheld_waiting p m n le [] h = refl
unheld_waiting p m n le (f ∷ fs) h =
    omega (arith, unheld p m n le f.kept h.0.levels, unheld_waiting p m n le fs h.1)

still_apart : (p : Program) (ls : List Level) (m : Memory) (f : Frame) → f.list ≡ length m.lists → WaitsWell p ls m
    → AreApart (frame f ∷ ls) m.fibers.others
still_apart p ls m f new h = record { once = λ n. at n (nat_eq f.list n) refl }
  where
    at : (n : ℕ) (b : Bool) → nat_eq f.list n ≡ b
        → (if b then 1 else 0) + holders n ls + waiting_holders n m.fibers.others ≤ 1
    at n true e =
        let le : length m.lists ≤ n = omega (arith, new, eqb-true f.list n e) in
        omega (arith, unheld p m n le ls h.levels, unheld_waiting p m n le m.fibers.others h.memory.waiting)
    at n false e = omega (arith, h.apart.once n)

-- Registers of a body: self, then nil.

all_nil : (P : Slot → Type 0) (n : ℕ) → P (V Nil) → AllAre P (replicate n (V Nil))
all_nil P zero h = tt
all_nil P (suc n) h = (h, all_nil P n h)

fresh_all : (P : Slot → Type 0) (b : Irep) (o : Option ℕ) (self : Value) → P (V Nil) → P (V self)
    → AllAre P (fresh_registers b o self).slots
fresh_all P b o self nil is = all_set P (replicate b.registers (V Nil)) 0 (V self) (all_nil P b.registers nil) is

fresh_length : (b : Irep) (o : Option ℕ) (self : Value) → length (fresh_registers b o self).slots ≡ b.registers
fresh_length b o self = length-set (replicate b.registers (V Nil)) 0 (V self) ∙ length-replicate b.registers (V Nil)

-- A body that is entered in a later world, with the list around its registers.
pub record BodyOpens (p : Program) (m : Memory) (v : World) (a b : ℕ) (o : Option ℕ) (self : Value) (args : List Value)
    (block : Option ObjId) : Type 0 where
  pub keeps : Keeps (bodies p m.lists) m.world v
  pub activation : IsActivation v a
  pub body : b < length p.bodies
  pub around : IsListOf p m.lists o (outer p b)
  pub receiver : IsValue (census v.store) self
  pub values : AllAre (IsValue (census v.store)) args
  pub proc : OptionIs (Is (census v.store) Proc) block

module _ (p : Program) (whole : IsWhole p) (verified : IsVerified p) (ls : List Level) (m : Memory)
    (h : WaitsWell p ls m) (v : World) (a b : ℕ) (o : Option ℕ) (self : Value) (args : List Value)
    (block : Option ObjId) (kind : BindKind) (entry : BodyOpens p m v a b o self args block) where
  abbrev registers : Registers
  registers = fresh_registers (body_at p b) o self

  abbrev opened : Memory
  opened = record m { lists = m.lists ++ registers ∷ []; world = v }

  at_new : list_at (m.lists ++ registers ∷ []) (length m.lists) ≡ registers
  at_new = get_or_push m.lists registers no_registers (length m.lists) refl

  list_of : IsListOf p (m.lists ++ registers ∷ []) (Some (length m.lists)) (Some b)
  list_of =
      let longer : length (m.lists ++ registers ∷ []) ≡ suc (length m.lists) = rw length-append (omega arith) in
      let ms = m.lists ++ registers ∷ [] in
      subst (λ (n : ℕ). ListFits n p ms (Some (length m.lists)) (Some b)) (sym longer) (
        omega (arith, longer),
        entry.body,
        ap (λ (r : Registers). length r.slots) at_new ∙ fresh_length (body_at p b) o self,
        subst (λ (r : Registers). OptionIs (IsBelow (length m.lists)) r.outer) (sym at_new)
            (first_below p m.lists (length m.lists) o (outer p b) entry.around),
        subst (λ (r : Registers). ListFits (length m.lists) p ms r.outer (outer p b)) (sym at_new)
            (fits_later p m.lists ms (push_grows m.lists registers) (length m.lists) o (outer p b) entry.around),
      )

  frame_fits : FrameFits p opened (begun_frame a b (length m.lists) args block kind) ls
  frame_fits =
      let f = begun_frame a b (length m.lists) args block kind in
      let k = census v.store in
      record {
        activation = entry.activation;
        body = entry.body;
        list = list_of;
        place = begins p whole verified b entry.body;
        kept = subst (λ (r : Registers). AllAre (KeptFits p k f ls) r.slots) (sym at_new)
            (fresh_all (KeptFits p k f ls) (body_at p b) o self tt tt);
        pending = tt;
        arguments = entry.values;
        block = entry.proc;
      }

  in_world : WaitsWell p ls (with_world m v)
  in_world = waits_still p m (with_world m v) (kept_world p m h.memory v entry.keeps) refl ls h

  waits_opened : WaitsWell p ls opened
  waits_opened =
      let new = list_pushed p (with_world m v) in_world.memory registers
      (fresh_all (SlotFits (census v.store)) (body_at p b) o self tt entry.receiver) in
      waits_still p (with_world m v) opened new refl ls in_world

  pub opens : Fits p (On (frame (begun_frame a b (length m.lists) args block kind) ∷ ls)
      (record m { lists = m.lists ++ fresh_registers (body_at p b) o self ∷ []; world = v }))
  opens = record {
    memory = waits_opened.memory;
    levels = (frame_fits, waits_opened.levels);
    apart = record { once = (still_apart p ls m (begun_frame a b (length m.lists) args block kind) refl h).once };
  }

-- the next activation is there once it is opened
pub opened_number : (w : World) (a : Activation) → IsActivation (with_activation w a) (next_activation w)
opened_number w a =
    let n : length (w.activations ++ a ∷ []) ≡ length w.activations + 1 = rw length-append (omega arith) in
    (omega arith, omega (arith, n))

-- an iteration that begins, or goes on, in a later world
pub iterates : (p : Program) (ls : List Level) (m : Memory) (a : ℕ) (it : Iteration) (v : Value) → WaitsWell p ls m
    → IsActivation m.world a → StateFits (census m.world.store) it → IsValue (census m.world.store) v
    → Fits p (On (iteration a it v ∷ ls) m)
iterates p ls m a it v h active state is = record {
  memory = h.memory;
  levels = ((active, state, is), h.levels);
  apart = record { once = λ n. omega (arith, h.apart.once n) };
}
