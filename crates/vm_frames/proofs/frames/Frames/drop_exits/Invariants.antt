use Rattle.std.proofs.Common.{◌≡◌, ◌-◌}
use Rattle.vm_frames.specs.Seen.{of, with_exits}
use Rattle.vm_frames.specs.Exits.{without, without_from, pending_number}
use Rattle.vm_frames.proofs.frames.Frames.drop_exits.Given as goal

-- the exits alone change, and those that are left to be dropped give the whole
abbrev pub invariant-registers : goal.invariant-registers
invariant-registers l = record {
  rest : of l.self ≡ with_exits (of l.fn.self) (of l.self).around.exits;
  whole : without_from (of l.self).around.exits l.frame.number l.a (l.frame.registers - l.a)
      ≡ without_from (without (of l.fn.self).around.exits l.frame.number pending_number) l.frame.number 0
      l.frame.registers;
}
