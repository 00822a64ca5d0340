use Rattle.std.proofs.Common.{◌≡◌, ◌+◌, ◌-◌}
use Rattle.vm_frames.specs.Seen.{of, with_exits}
use Rattle.vm_frames.specs.Exits.{without_from}
use Rattle.vm_frames.proofs.frames.Frames.drop_exits_of.Given as goal

-- the exits alone change, and those that are left to be dropped give the whole
abbrev pub invariant-registers : goal.invariant-registers
invariant-registers l = record {
  rest : of l.self ≡ with_exits (of l.fn.self) (of l.self).around.exits;
  whole : without_from (of l.self).around.exits l.frame.number (l.i + 1) (l.count - l.i)
      ≡ without_from (of l.fn.self).around.exits l.frame.number 1 l.count;
}
