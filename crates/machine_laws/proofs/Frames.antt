-- A frame at another place, with another exit that came to its handler, or with other arguments.
use Rattle.std.proofs.Common.{ℕ, List}
use Rattle.std.specs.Prelude.{Option}
use Rattle.rb_value.specs.declared.value.Value.{Value}
use Rattle.rb_value.specs.declared.exit.Exit.{Exit}
use Rattle.rb_value.specs.declared.exit.Exit.TheVariants.{Raise, Return, Break, Jump}
use Rattle.rb_value.specs.declared.exit.Slot.{Slot}
use Rattle.rb_value.specs.declared.exit.Slot.TheVariants.{V, E}
use Rattle.def_core.specs.Sound.{Census, census, IsValue, OptionIs, AllAre}
use Rattle.rite_code.specs.Code.{Program}
use Rattle.def_machine.specs.State.{Frame, Level, Memory, list_at, goto}
use Rattle.def_machine.specs.Fits.{IsStart, ExitFits, KeptFits, FrameFits}
use Rattle.world_laws.proofs.Growing.{all_stay, option_stays}

abbrev pub reshaped : Frame → ℕ → ℕ → ℕ → Option Exit → List Value → Frame
reshaped f at after waits x vs =
    record f { place = at; after = after; waits = waits; pending = x; arguments = vs }

module _ (p : Program) (f : Frame) (at after waits : ℕ) (x : Option Exit) (vs : List Value)
    (below : List Level) where
  pub exit_reshaped : (k : Census) (y : Exit) → ExitFits p k f below y
      → ExitFits p k (reshaped f at after waits x vs) below y
  exit_reshaped k (Raise e) h = h
  exit_reshaped k (Return a v) h = h
  exit_reshaped k (Break a v) h = h
  exit_reshaped k (Jump a t) h = h

  pub kept_reshaped : (k : Census) (s : Slot) → KeptFits p k f below s
      → KeptFits p k (reshaped f at after waits x vs) below s
  kept_reshaped k (V v) h = tt
  kept_reshaped k (E y) h = exit_reshaped k y h

  pub frame_reshaped : (m : Memory) → FrameFits p m f below → IsStart p f.body at
      → OptionIs (ExitFits p (census m.world.store) f below) x → AllAre (IsValue (census m.world.store)) vs
      → FrameFits p m (reshaped f at after waits x vs) below
  frame_reshaped m h start new values =
      let k = census m.world.store in
      record {
        activation = h.activation;
        body = h.body;
        list = h.list;
        place = start;
        kept = all_stay (KeptFits p k f below) (KeptFits p k (reshaped f at after waits x vs) below) (kept_reshaped k)
            (list_at m.lists f.list).slots h.kept;
        pending = option_stays (ExitFits p k f below) (ExitFits p k (reshaped f at after waits x vs) below)
            (exit_reshaped k) x new;
        arguments = values;
        block = h.block;
      }

-- the frame goes on at a start
pub frame_moved : (p : Program) (m : Memory) (f : Frame) (below : List Level) (at : ℕ) → FrameFits p m f below
    → IsStart p f.body at → FrameFits p m (goto f at) below
frame_moved p m f below at h start =
    frame_reshaped p f at f.after f.waits f.pending f.arguments below m h start h.pending h.arguments
