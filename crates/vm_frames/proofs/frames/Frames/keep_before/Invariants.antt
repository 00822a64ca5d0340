use Rattle.std.proofs.Common.{◌≡◌, ◌+◌, ◌-◌}
use Rattle.vm_frames.specs.Seen.{of}
use Rattle.vm_frames.specs.Opening.{registers_kept, value_kept}
use Rattle.vm_frames.proofs.frames.Frames.keep_before.Given as goal

-- what is left to be kept gives the whole
abbrev pub invariant-arguments : goal.invariant-arguments
invariant-arguments l = registers_kept (of l.self) (l.arguments.first + l.i) (l.arguments.count - l.i)
    ≡ registers_kept (value_kept (of l.fn.self) l.fn.value) l.arguments.first l.arguments.count
