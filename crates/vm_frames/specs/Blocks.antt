-- How many registers all lines hold at most at once, in blocks of 64.
use Rattle.std.specs.Prelude.{ℕ, ◌+◌, ◌-◌, max}
use Rattle.std.specs.Int.{div_ceil}
use Rattle.vm_frames.specs.declared.blocks.Blocks.{Blocks}
use Rattle.vm_frames.specs.Registers.{saturated}

abbrev pub blocks_of : ℕ → ℕ
blocks_of registers = div_ceil registers 64

abbrev pub none : Blocks
none = record { top = 0; waiting = 0; most = 0 }

-- the line that runs holds so many registers
abbrev pub reached : Blocks → ℕ → Blocks
reached b held = record b { top = max b.top held }

-- the most blocks that all lines held at once
abbrev pub peak : Blocks → ℕ
peak b = max b.most (saturated (b.waiting + blocks_of b.top))

-- a line that holds so many registers waits from now on, and one runs that holds so many
abbrev pub switched : Blocks → ℕ → ℕ → Blocks
switched b waits runs = record {
  top = runs;
  waiting = saturated (b.waiting + blocks_of waits) - blocks_of runs;
  most = peak b;
}
