-- A value goes to the level that waits for it.
use Rattle.std.proofs.Common.{◌≡◌, ℕ, suc, ◌+◌, ◌<◌, ◌≤◌, List, [], ◌∷◌, length, refl, subst, arith}
use Rattle.std.specs.Prelude.{Option, Some, None}
use Rattle.rb_value.specs.declared.value.Value.{Value}
use Rattle.def_core.specs.Sound.{census, IsValue}
use Rattle.rite_code.specs.Code.{Program}
use Rattle.def_calls.specs.World.{with_store}
use Rattle.def_calls.specs.Fibers.{Onward}
use Rattle.def_calls.specs.Fibers as fibers
use Rattle.def_machine.specs.State.{Frame, Level, frame, iteration, Memory, goto, write}
use Rattle.def_machine.specs.Unwind.{receive_here, receive_in_resumer, end_fiber, receive, in_resumer}
use Rattle.def_machine.specs.Fits.{IsStart, AreApart, MemoryFits, RunsWell, Fits, holders, waiting_holders}
use Rattle.world_laws.specs.Fine.{Keeps}
use Rattle.world_laws.proofs.Fibers.{ended_keeps}
use Rattle.world_laws.proofs.Growing.{value_stays}
use Rattle.machine_laws.specs.Growth.{Everywhere}
use Rattle.machine_laws.specs.Levels.{WaitsWell}
use Rattle.machine_laws.proofs.Alike.{name_is}
use Rattle.machine_laws.proofs.Fibers.{OnwardFits, back_fits}
use Rattle.machine_laws.proofs.Frames.{frame_moved}
use Rattle.machine_laws.proofs.Later.{levels_later}
use Rattle.machine_laws.proofs.Memories.{FibersFit, Changes, changed_memory, runs_still, kept_world, value_put}
use Rattle.machine_laws.proofs.Worlds.{bodies, fine_world}

module _ (p : Program) where
  -- the innermost frame goes on at a start
  pub moved : (f : Frame) (ls : List Level) (m : Memory) (at : ℕ) → RunsWell p (frame f ∷ ls) m → IsStart p f.body at
      → RunsWell p (frame (goto f at) ∷ ls) m
  moved f ls m at h start = record {
    memory = h.memory;
    levels = (frame_moved p m f ls at h.levels.0 start, h.levels.1);
    apart = record { once = h.apart.once };
  }

  -- a register of any list gets a value
  pub written : (l : Level) (ls : List Level) (m : Memory) (f : Frame) (a : ℕ) (v : Value) → RunsWell p (l ∷ ls) m
      → IsValue (census m.world.store) v → RunsWell p (l ∷ ls) (write m f a v)
  written l ls m f a v h is =
      runs_still p m (write m f a v) (value_put p m h.memory f.list a v is) refl l ls h

  -- of levels that wait, the innermost runs
  pub runs_of : (l : Level) (ls : List Level) (m : Memory) → WaitsWell p (l ∷ ls) m → RunsWell p (l ∷ ls) m
  runs_of l ls m h = record { memory = h.memory; levels = (h.levels.0, h.levels.2); apart = h.apart }

  pub received_here : (v : Value) (l : Level) (ls : List Level) (m : Memory) → WaitsWell p (l ∷ ls) m
      → IsValue (census m.world.store) v → Fits p (receive_here v l ls m)
  received_here v (frame f) ls m h is =
      moved f ls (write m f f.waits v) f.after
      (written (frame f) ls m f f.waits v (runs_of (frame f) ls m h) is) h.levels.1.after
  received_here v (iteration a it old) ls m h is = record {
    memory = h.memory;
    levels = ((h.levels.0.0, h.levels.0.1, is), h.levels.2);
    apart = record { once = h.apart.once };
  }

  -- The resumer goes on.

  pub onward_waits : (m v : Memory) (o : Onward (List Level)) → MemoryFits p m → OnwardFits p m o → Changes p m v
      → o.fibers ≡ v.fibers → WaitsWell p o.kept v
  onward_waits m v o h on c same = record {
    memory = changed_memory p m v c h.names (subst (FibersFit p m) same on.fibers);
    levels = levels_later p m v Everywhere c.grows o.kept (λ n lt. tt) on.levels;
    apart = record {
      once = subst (λ (fs : fibers.Fibers (List Level)). (n : ℕ)
          → holders n o.kept + waiting_holders n fs.others ≤ 1) same on.apart;
    };
  }

  pub marked : (m : Memory) → MemoryFits p m
      → Keeps (bodies p m.lists) m.world (with_store m.world (fibers.with_ended m.world.store m.fibers.running))
  marked m h = ended_keeps (bodies p m.lists) m.world (fine_world p m.lists m.world h.world) m.fibers.running
      (name_is (census m.world.store) m.fibers.running h.running)

  resumer_changes : (m : Memory) (o : Onward (List Level)) → MemoryFits p m → Changes p m (in_resumer m o)
  resumer_changes m o h =
      let c = kept_world p m h (with_store m.world (fibers.with_ended m.world.store m.fibers.running)) (marked m h) in
      record {
        grows = record { world = c.grows.world; lists = c.grows.lists; exits = c.grows.exits };
        world = c.world;
        registers = c.registers;
      }

  pub resumer_waits : (m : Memory) (o : Onward (List Level)) → MemoryFits p m → OnwardFits p m o
      → WaitsWell p o.kept (in_resumer m o)
  resumer_waits m o h on = onward_waits m (in_resumer m o) o h on (resumer_changes m o h) refl

  in_some : (v : Value) (ls : List Level) (m : Memory) → 0 < length ls → WaitsWell p ls m
      → IsValue (census m.world.store) v → Fits p (receive_in_resumer v ls m)
  in_some v [] m some h is = absurd (omega (arith, some))
  in_some v (l ∷ ls) m some h is = received_here v l ls m h is

  ended : (v : Value) (m : Memory) (found : Option (Onward (List Level)))
      → ((o : Onward (List Level)) → found ≡ Some o → OnwardFits p m o) → MemoryFits p m
      → IsValue (census m.world.store) v → Fits p (end_fiber v found m)
  ended v m None on h is = tt
  ended v m (Some o) on h is =
      let fits = on o refl in
      in_some v o.kept (in_resumer m o) fits.some (resumer_waits m o h fits)
      (value_stays m.world (in_resumer m o).world (marked m h).extends v is)

  none_left : (m : Memory) → AreApart [] m.fibers.others → (n : ℕ) → waiting_holders n m.fibers.others ≤ 1
  none_left m apart n = omega (arith, apart.once n)

  pub finished : (m : Memory) (h : MemoryFits p m) (apart : AreApart [] m.fibers.others) (o : Onward (List Level))
      → fibers.finish m.fibers ≡ Some o
      → OnwardFits p m o × (suc (length o.fibers.others) ≡ length m.fibers.others)
  unfolding fibers.finish
  finished m h apart o e =
      let back = back_fits p m m.fibers.others h.waiting (none_left m apart) m.fibers.resumer o e in
      (back.onward, back.fewer)

  pub received : (v : Value) (ls : List Level) (m : Memory) → WaitsWell p ls m
      → IsValue (census m.world.store) v → Fits p (receive v ls m)
  unfolding receive
  received v [] m h is =
      ended v m (fibers.finish m.fibers) (λ o e. (finished m h.memory h.apart o e).0) h.memory is
  received v (l ∷ ls) m h is = received_here v l ls m h is
