-- What one memory keeps of another.
use Rattle.std.specs.Prelude.{◌≡◌, ◌<◌, ◌≤◌, ℕ, List, length}
use Rattle.def_core.specs.Sound.{Census, AllAre}
use Rattle.rite_code.specs.Code.{Program}
use Rattle.def_machine.specs.State.{Registers, Frame, Level, Memory, list_at}
use Rattle.def_machine.specs.Fits.{KeptFits}
use Rattle.world_laws.specs.Fine.{Extends}

-- each list stays around the same one, with as many registers
pub record ListsGrow (ls ms : List Registers) : Type 0 where
  pub longer : length ls ≤ length ms
  pub outer : (n : ℕ) → n < length ls → (list_at ms n).outer ≡ (list_at ls n).outer
  pub count : (n : ℕ) → n < length ls → length (list_at ms n).slots ≡ length (list_at ls n).slots

-- where the exits that a list keeps fit a frame, they do so still
abbrev pub KeepsExits : Program → List Registers → List Registers → ℕ → Type 0
KeepsExits p ls ms n = (k : Census) (f : Frame) (below : List Level)
    → AllAre (KeptFits p k f below) (list_at ls n).slots → AllAre (KeptFits p k f below) (list_at ms n).slots

-- a later memory: its lists of some numbers keep the exits that they had
pub record Grows (p : Program) (m v : Memory) (Held : ℕ → Type 0) : Type 0 where
  pub world : Extends m.world v.world
  pub lists : ListsGrow m.lists v.lists
  pub exits : (n : ℕ) → Held n → n < length m.lists → KeepsExits p m.lists v.lists n

abbrev pub Everywhere : ℕ → Type 0
Everywhere n = Unit {0}
