use Rattle.std.proofs.Common.{◌≡◌, ◌+◌, drop}
use Rattle.vm_frames.specs.Registers.{put_all}
use Rattle.vm_frames.proofs.registers.copy_to.Given as goal

-- what is left to be put gives the whole
abbrev pub invariant-values : goal.invariant-values
invariant-values l = put_all l.registers (l.from + l.i) (drop l.i l.values) ≡ put_all l.fn.registers l.from l.values
