use Rattle.std.proofs.Common.{◌≡◌, ◌+◌, ◌++◌, take, drop}
use Rattle.vm_frames.specs.Registers.{refilled}
use Rattle.vm_frames.proofs.registers.copy_from.Given as goal

-- the first values are refilled, and what is left gives the whole
abbrev pub invariant-values : goal.invariant-values
invariant-values l = take l.i l.values ++ refilled (drop l.i l.values) l.registers (l.from + l.i)
    ≡ refilled l.fn.values l.registers l.from
