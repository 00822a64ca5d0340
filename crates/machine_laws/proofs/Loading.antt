-- Instructions that move values between registers, and jumps.
use Rattle.std.proofs.Common.{◌≡◌, ℕ, ◌+◌, List, ◌∷◌, Bool, true, false, refl, sym, ap, true≢false}
use Rattle.std.specs.Prelude.{Option, Some, None, nat_eq, if◌then◌else◌}
use Rattle.rb_value.specs.declared.value.Value.TheVariants.{Int, Obj}
use Rattle.rb_value.specs.declared.exit.Slot.TheVariants.{V}
use Rattle.rb_value.specs.declared.core_class.CoreClass.TheVariants as class
use Rattle.def_core.specs.Store.{Store, core}
use Rattle.def_core.specs.Sound.{census, Sound, Any, plays_at, Is, IsValue}
use Rattle.rite_code.specs.declared.code.PoolItem.{PoolItem}
use Rattle.rite_code.specs.declared.code.PoolItem.TheVariants as pool
use Rattle.rite_code.specs.Code.{Program, IsWhole}
use Rattle.code_verifier.specs.Checks.{is_integer}
use Rattle.code_verifier.specs.Verified.{IsVerified}
use Rattle.def_machine.specs.State.{Frame, Level, frame, Memory, value_at, put, list_out}
use Rattle.def_machine.specs.Turn.{reg, jump, set, load_integer, set_out, core_class}
use Rattle.def_machine.specs.Fits.{IsStart, RunsWell, Fits}
use Rattle.machine_laws.proofs.Answering.{jumps, sets}
use Rattle.machine_laws.proofs.Memories.{runs_still, value_put}
use Rattle.machine_laws.proofs.Reading.{reg_fits, value_fits}

-- the core classes are there
core_there : (st : Store) → Sound st → (b : ℕ) → IsValue (census st) (Obj (core_class b))
core_there st sound b =
    elim (nat_eq b 0) as (λ t. Is (census st) Any (if t then core class.Object else core class.StandardError)) [
      | true ↦ record { holds = ap (plays_at Any) (sound.core class.Object) }
      | false ↦ record { holds = ap (plays_at Any) (sound.core class.StandardError) }
    ]

module _ (p : Program) (whole : IsWhole p) (verified : IsVerified p) (f : Frame) (ls : List Level)
    (m : Memory) (h : RunsWell p (frame f ∷ ls) m) (next : ℕ) where
  pub moves : (a b : ℕ) → IsStart p f.body next → Fits p (set a (reg f m b) next f ls m)
  moves a b start = sets p whole verified a (reg f m b) next f ls m h start (reg_fits p m h.memory f b)

  pub loads : (found : Option PoolItem) (a : ℕ) → IsStart p f.body next → is_integer found ≡ true
      → Fits p (load_integer found a next f ls m)
  loads None a start is = absurd (true≢false (sym is))
  loads (Some (pool.Int z)) a start is = sets p whole verified a (Int z) next f ls m h start tt
  loads (Some (pool.Text t)) a start is = absurd (true≢false (sym is))

  pub classes : (a b : ℕ) → IsStart p f.body next → Fits p (set a (Obj (core_class b)) next f ls m)
  classes a b start =
      sets p whole verified a (Obj (core_class b)) next f ls m h start
      (core_there m.world.store h.memory.world.store b)

  -- variables of bodies further out
  pub reads_out : (a b d : ℕ) → IsStart p f.body next
      → Fits p (set a (value_at m.lists (list_out (d + 1) m.lists f.list) b) next f ls m)
  reads_out a b d start =
      let n = list_out (d + 1) m.lists f.list in
      sets p whole verified a (value_at m.lists n b) next f ls m h start (value_fits p m h.memory n b)

  pub writes_out : (a b d : ℕ) → IsStart p f.body next → Fits p (set_out a b d next f ls m)
  writes_out a b d start =
      let n = list_out (d + 1) m.lists f.list in
      let v = record m { lists = put m.lists n b (V (reg f m a)) } in
      let c = value_put p m h.memory n b (reg f m a) (reg_fits p m h.memory f a) in
      jumps p whole verified next f ls v (runs_still p m v c refl (frame f) ls h) start

  pub branches : (b : Bool) (to : ℕ) → IsStart p f.body next → IsStart p f.body to
      → Fits p (jump (if b then to else next) f ls m)
  branches true to start there = jumps p whole verified to f ls m h there
  branches false to start there = jumps p whole verified next f ls m h start

  pub branches_not : (b : Bool) (to : ℕ) → IsStart p f.body next → IsStart p f.body to
      → Fits p (jump (if b then next else to) f ls m)
  branches_not true to start there = jumps p whole verified next f ls m h start
  branches_not false to start there = jumps p whole verified to f ls m h there
