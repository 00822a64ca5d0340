-- Instructions that call.
use Rattle.std.proofs.Common.{ℕ, ◌+◌, ◌<◌, List, ◌∷◌, true, false}
use Rattle.std.specs.Prelude.{Option, Some, None, nat_eq, if◌then◌else◌}
use Rattle.rb_value.specs.declared.value.ObjId.{ObjId}
use Rattle.rb_value.specs.declared.value.SymId.{SymId}
use Rattle.def_core.specs.Changes.{intern}
use Rattle.def_core.specs.Sound.{Census, census, Proc, Is, IsSymbol, IsValue, OptionIs, AllAre}
use Rattle.rite_code.specs.Code.{Program, IsWhole}
use Rattle.code_verifier.specs.Verified.{IsVerified}
use Rattle.def_calls.specs.World.{World}
use Rattle.def_calls.specs.Values.{elements_or_itself, wrong_value}
use Rattle.def_calls.specs.Calls.{Sending, by_name, by_bare_name, to_proc, to_super, BlockArgument, no_block, block_of, not_a_block, block_argument, passing}
use Rattle.def_calls.specs.Calls as calls
use Rattle.def_machine.specs.State.{Frame, Level, frame, Memory, body_at, with_world}
use Rattle.def_machine.specs.Turn.{reg, row, running, waits_in, arguments, registers_of, call, call_with, call_with_block, self_name, self_first, operate}
use Rattle.def_machine.specs.Fits.{IsStart, IsName, RunsWell, Fits}
use Rattle.world_laws.specs.Fine.{Extends, Fine}
use Rattle.world_laws.specs.Outcomes.{SendingIs, BlockArgumentIs}
use Rattle.world_laws.proofs.Calling.{call_is}
use Rattle.world_laws.proofs.Ending.{block_argument_is}
use Rattle.world_laws.proofs.Growing.{symbol_stays}
use Rattle.world_laws.proofs.Values.{elements_or_itself_are, wrong_value_is}
use Rattle.machine_laws.specs.Levels.{WaitsWell}
use Rattle.machine_laws.proofs.Answering.{afters, in_world}
use Rattle.machine_laws.proofs.Entering.{enters_fit}
use Rattle.machine_laws.proofs.Frames.{frame_reshaped}
use Rattle.machine_laws.proofs.Reading.{reg_fits, row_fits, running_fits, name_is_symbol}
use Rattle.machine_laws.proofs.Receiving.{written}
use Rattle.machine_laws.proofs.Worlds.{bodies, fine_world, activation_fine}

-- a frame that waits for a call in a register
pub waits_for : (p : Program) (f : Frame) (ls : List Level) (m : Memory) (a next : ℕ) → RunsWell p (frame f ∷ ls) m
    → IsStart p f.body next → a < (body_at p f.body).registers → WaitsWell p (frame (waits_in a next f) ∷ ls) m
waits_for p f ls m a next h start below = record {
  memory = h.memory;
  levels = (
    frame_reshaped p f f.place next a f.pending f.arguments ls m h.levels.0 h.levels.0.place h.levels.0.pending
        h.levels.0.arguments,
    record { after = start; register = below },
    h.levels.1,
  );
  apart = record { once = h.apart.once };
}

sending_later : (w v : World) → Extends w v → (s : Sending) → SendingIs (census w.store) s
    → SendingIs (census v.store) s
sending_later w v e (by_name s) h = symbol_stays w v e s h
sending_later w v e (by_bare_name s) h = symbol_stays w v e s h
sending_later w v e to_proc h = tt
sending_later w v e to_super h = tt

-- a call on self has a name, which may be bare
pub self_named : (k : Census) (n : ℕ) (s : SymId) → IsSymbol k s → SendingIs k (self_name n s)
self_named k n s h = elim (nat_eq n 254) as (λ b. SendingIs k (if b then by_bare_name s else by_name s)) [
  | true ↦ h
  | false ↦ h
]

module _ (p : Program) (whole : IsWhole p)
    (verified : IsVerified p) (f : Frame) (ls : List Level) (a next : ℕ) (start : IsStart p f.body next)
    (below : a < (body_at p f.body).registers) where
  fine : (m : Memory) → RunsWell p (frame f ∷ ls) m → Fine (bodies p m.lists) m.world
  fine m h = fine_world p m.lists m.world h.memory.world

  given : (m : Memory) → RunsWell p (frame f ∷ ls) m → (n : ℕ)
      → AllAre (IsValue (census m.world.store)) (arguments f m a n)
  given m h n = elim (nat_eq n 255) as (λ b. AllAre (IsValue (census m.world.store))
      (if b then elements_or_itself m.world (reg f m (a + 1)) else row f m (a + 1) n)) [
        | true ↦ elements_or_itself_are (bodies p m.lists) m.world (fine m h) (reg f m (a + 1))
            (reg_fits p m h.memory f (a + 1))
        | false ↦ row_fits p m h.memory f n (a + 1)
      ]

  pub called : (m : Memory) → RunsWell p (frame f ∷ ls) m → (s : Sending) (n : ℕ) (block : Option ObjId)
      → SendingIs (census m.world.store) s → OptionIs (Is (census m.world.store) Proc) block
      → Fits p (call p s a n block next f ls m)
  called m h s n block is proc =
      let k = frame (waits_in a next f) ∷ ls in
      let active = running_fits p m f.activation h.memory h.levels.0.activation in
      enters_fit p whole verified k m (waits_for p f ls m a next h start below)
      (calls.call m.world (running f m) s (reg f m a) (arguments f m a n) block) block
      (call_is (bodies p m.lists) m.world (fine m h) (running f m) s (reg f m a) (arguments f m a n) block
      (activation_fine m.world (running f m) active) is (reg_fits p m h.memory f a) (given m h n) proc) proc

  called_with : (m : Memory) → RunsWell p (frame f ∷ ls) m → (s : Sending) (n : ℕ) (b : BlockArgument)
      → SendingIs (census m.world.store) s → BlockArgumentIs (bodies p m.lists) m.world b
      → Fits p (call_with p s a n b next f ls m)
  called_with m h s n no_block is block = called m h s n None is tt
  called_with m h s n (block_of q w) is block =
      called (with_world m w) (in_world p whole verified w (frame f) ls m h block.0) s n (Some q)
      (sending_later m.world w block.0.extends s is) block.1
  called_with m h s n not_a_block is block =
      afters p whole verified (wrong_value m.world (passing s)) a next f ls m h start
      (wrong_value_is (bodies p m.lists) m.world (fine m h) (passing s))

  pub called_with_block : (m : Memory) → RunsWell p (frame f ∷ ls) m → (s : Sending) (n : ℕ)
      → SendingIs (census m.world.store) s → Fits p (call_with_block p s a n next f ls m)
  called_with_block m h s n is =
      let v = reg f m (a + 1 + registers_of n) in
      called_with m h s n (block_argument m.world v) is
      (block_argument_is (bodies p m.lists) m.world (fine m h) v (reg_fits p m h.memory f (a + 1 + registers_of n)))

  -- self goes before the arguments
  pub self_put : (m : Memory) → RunsWell p (frame f ∷ ls) m → RunsWell p (frame f ∷ ls) (self_first f m a)
  self_put m h = written p (frame f) ls m f a (reg f m 0) h (reg_fits p m h.memory f 0)

  -- an operator is a name
  pub operated : (m : Memory) → RunsWell p (frame f ∷ ls) m → (name : List ℕ) → IsName m.world.store.symbols name
      → Fits p (operate p name a next f ls m)
  operated m h name is =
      called m h (by_name (intern m.world.store name).symbol) 1 None (name_is_symbol m.world.store name is) tt
