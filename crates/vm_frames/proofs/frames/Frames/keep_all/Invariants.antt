use Rattle.std.proofs.Common.{◌≡◌, drop}
use Rattle.vm_frames.specs.Seen.{of}
use Rattle.vm_frames.specs.Opening.{values_kept}
use Rattle.vm_frames.proofs.frames.Frames.keep_all.Given as goal

-- what is left to be kept gives the whole
abbrev pub invariant-values : goal.invariant-values
invariant-values l = values_kept (of l.self) (drop l.value-index l.values) ≡ values_kept (of l.fn.self) l.values
