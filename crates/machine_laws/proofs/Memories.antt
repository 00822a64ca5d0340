-- A memory that fits, its fibers, and a later memory.
use Rattle.std.proofs.Common.{◌≡◌, ℕ, List, [], ◌∷◌, ◌++◌, subst}
use Rattle.std.specs.Prelude.{Option, Some, None}
use Rattle.rb_value.specs.declared.value.Value.{Value}
use Rattle.rb_value.specs.declared.exit.Slot.TheVariants.{V}
use Rattle.def_core.specs.Sound.{census, IsValue, OptionIs, AllAre}
use Rattle.rite_code.specs.Code.{Program}
use Rattle.def_calls.specs.World.{World}
use Rattle.def_calls.specs.Fibers as fibers
use Rattle.def_machine.specs.State.{Registers, Level, Memory, put, with_world}
use Rattle.def_machine.specs.Fits.{RegistersFit, NameFits, FiberFits, WorldFits, NamesFit, AreApart, MemoryFits, RunsWell}
use Rattle.world_laws.specs.Fine.{Extends, Fine, Keeps}
use Rattle.world_laws.proofs.Growing.{extends_itself}
use Rattle.machine_laws.specs.Growth.{Grows, Everywhere}
use Rattle.machine_laws.specs.Levels.{WaitsWell}
use Rattle.machine_laws.proofs.Later.{registers_later, name_later, names_later, level_later, levels_later, fibers_later}
use Rattle.machine_laws.proofs.Lists.{all_append}
use Rattle.machine_laws.proofs.Worlds.{bodies, fitting_world, world_later}
use Rattle.machine_laws.proofs.Writing.{put_grows, registers_put, keeps_value, push_grows, keeps_pushed, lists_stay}

-- fibers of a memory
pub record FibersFit (p : Program) (m : Memory) (fs : fibers.Fibers (List Level)) : Type 0 where
  pub running : NameFits (census m.world.store) fs.running
  pub resumer : OptionIs (NameFits (census m.world.store)) fs.resumer
  pub waiting : AllAre (FiberFits p m) fs.others

pub fibers_of : (p : Program) (m : Memory) → MemoryFits p m → FibersFit p m m.fibers
fibers_of p m h = record { running = h.running; resumer = h.resumer; waiting = h.waiting }

-- a memory whose world and lists fit, and that keeps every exit
pub record Changes (p : Program) (m v : Memory) : Type 0 where
  pub grows : Grows p m v Everywhere
  pub world : WorldFits p v.lists v.world
  pub registers : AllAre (RegistersFit (census v.world.store)) v.lists

resumer_later : (w v : World) (e : Extends w v) (o : Option fibers.Name) → OptionIs (NameFits (census w.store)) o
    → OptionIs (NameFits (census v.store)) o
resumer_later w v e None h = tt
resumer_later w v e (Some n) h = name_later w v e n h

module _ (p : Program) (m v : Memory) where
  pub changed_memory : Changes p m v → NamesFit p m.world.store → FibersFit p m v.fibers → MemoryFits p v
  changed_memory c names fs = record {
    world = c.world;
    names = names_later m.world v.world c.grows.world p names;
    registers = c.registers;
    running = name_later m.world v.world c.grows.world v.fibers.running fs.running;
    resumer = resumer_later m.world v.world c.grows.world v.fibers.resumer fs.resumer;
    waiting = fibers_later p m v Everywhere c.grows v.fibers.others (λ n lt. tt) fs.waiting;
  }

  module _ (c : Changes p m v) (same : m.fibers ≡ v.fibers) where
    memory_still : MemoryFits p m → MemoryFits p v
    memory_still h =
        changed_memory c h.names (subst (FibersFit p m) same (fibers_of p m h))

    apart_still : (ls : List Level) → AreApart ls m.fibers.others → AreApart ls v.fibers.others
    apart_still ls h = subst (λ (fs : fibers.Fibers (List Level)). AreApart ls fs.others) same h

    pub waits_still : (ls : List Level) → WaitsWell p ls m → WaitsWell p ls v
    waits_still ls h = record {
      memory = memory_still h.memory;
      levels = levels_later p m v Everywhere c.grows ls (λ n lt. tt) h.levels;
      apart = apart_still ls h.apart;
    }

    pub runs_still : (l : Level) (ls : List Level) → RunsWell p (l ∷ ls) m → RunsWell p (l ∷ ls) v
    runs_still l ls h = record {
      memory = memory_still h.memory;
      levels = (
        level_later p m v Everywhere c.grows l ls (λ n lt. tt) h.levels.0,
        levels_later p m v Everywhere c.grows ls (λ n lt. tt) h.levels.1,
      );
      apart = apart_still (l ∷ ls) h.apart;
    }

-- The changes that a turn is made of.

module _ (p : Program) (m : Memory) (h : MemoryFits p m) where
  -- another world, which is fine
  pub later_world : (w : World) → Fine (bodies p m.lists) w → Extends m.world w → Changes p m (with_world m w)
  later_world w fine e = record {
    grows = record { world = e; lists = lists_stay m.lists; exits = λ n held lt c f below x. x };
    world = fitting_world p m.lists w fine;
    registers = registers_later m.world w e m.lists h.registers;
  }

  pub kept_world : (w : World) → Keeps (bodies p m.lists) m.world w → Changes p m (with_world m w)
  kept_world w k = later_world w k.fine k.extends

  -- a value in a register of any list
  pub value_put : (n i : ℕ) (v : Value) → IsValue (census m.world.store) v
      → Changes p m (record m { lists = put m.lists n i (V v) })
  value_put n i v new = record {
    grows = record {
      world = extends_itself m.world;
      lists = put_grows m.lists n i (V v);
      exits = λ j held lt. keeps_value p m.lists n i v j lt;
    };
    world = world_later p m.world m.lists (put m.lists n i (V v)) (put_grows m.lists n i (V v)) h.world;
    registers = registers_put m.lists n i (V v) (census m.world.store) new h.registers;
  }

  -- a new list
  pub list_pushed : (r : Registers) → RegistersFit (census m.world.store) r
      → Changes p m (record m { lists = m.lists ++ r ∷ [] })
  list_pushed r new = record {
    grows = record {
      world = extends_itself m.world;
      lists = push_grows m.lists r;
      exits = λ j held lt. keeps_pushed m.lists r p j lt;
    };
    world = world_later p m.world m.lists (m.lists ++ r ∷ []) (push_grows m.lists r) h.world;
    registers = all_append (RegistersFit (census m.world.store)) m.lists (r ∷ []) h.registers (new, tt);
  }

  -- other fibers
  pub other_fibers : (fs : fibers.Fibers (List Level)) → Changes p m (record m { fibers = fs })
  other_fibers fs = record {
    grows = record {
      world = extends_itself m.world;
      lists = lists_stay m.lists;
      exits = λ n held lt c f below x. x;
    };
    world = h.world;
    registers = h.registers;
  }
