use Rattle.std.proofs.Common.{◌≡◌, ◌+◌, ◌-◌}
use Rattle.vm_frames.specs.Registers.{copied}
use Rattle.vm_frames.proofs.registers.copy_within.Given as goal

-- what is left to be copied gives the whole
abbrev pub invariant-values : goal.invariant-values
invariant-values l = copied l.registers (l.from + l.i) (l.to + l.i) (l.count - l.i)
    ≡ copied l.fn.registers l.from l.to l.count
