use Rattle.std.proofs.Common.{◌≡◌, ◌+◌, drop}
use Rattle.vm_frames.specs.Registers.{put_all, padded}
use Rattle.vm_frames.proofs.registers.put_padded.Given as goal

-- what is left to be put gives the whole
abbrev pub invariant-values : goal.invariant-values
invariant-values l = put_all l.registers (l.place + l.i) (drop l.i (padded l.values l.wanted))
    ≡ put_all l.fn.registers l.place (padded l.values l.wanted)
