-- How many registers a run holds at most at once, in blocks of 64: those of the frames of each fiber that has begun and
-- hasn't ended.
use Rattle.std.specs.Prelude.{ℕ, ◌+◌, ◌/◌, zero, suc, List, [], ◌∷◌, length, max}
use Rattle.rite_code.specs.Code.{Program}
use Rattle.def_calls.specs.Fibers.{Fiber}
use Rattle.def_machine.specs.State.{Registers, Level, frame, iteration, Memory, State, On, Off, Stuck, list_at, start}
use Rattle.def_machine.specs.Turn.{turns}

-- the registers of the frames among these levels
abbrev pub registers_held : List Registers → List Level → ℕ
registers_held ls [] = 0
registers_held ls (frame f ∷ levels) = length (list_at ls f.list).slots + registers_held ls levels
registers_held ls (iteration a i v ∷ levels) = registers_held ls levels

abbrev pub blocks_held : List Registers → List Level → ℕ
blocks_held ls levels = (registers_held ls levels + 63) / 64

abbrev pub blocks_waiting : List Registers → List (Fiber (List Level)) → ℕ
blocks_waiting ls [] = 0
blocks_waiting ls (f ∷ fs) = blocks_held ls f.kept + blocks_waiting ls fs

-- of the fiber that runs and of those that wait; a run that has ended holds none
abbrev pub blocks : State → ℕ
blocks (On levels m) = blocks_held m.lists levels + blocks_waiting m.lists m.fibers.others
blocks (Off e) = 0
blocks (Stuck out) = 0

-- the greatest number of blocks after none to so many turns
abbrev pub peak_of : ℕ → Program → State → ℕ
peak_of zero c s = blocks s
peak_of (suc n) c s = max (peak_of n c s) (blocks (turns (suc n) c s))

unfoldable pub peak : Program → List ℕ → ℕ → ℕ
peak c input n = peak_of n c (start c input)
