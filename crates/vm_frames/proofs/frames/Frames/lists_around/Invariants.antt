use Rattle.std.proofs.Common.{◌≡◌, ◌-◌, ◌++◌, length}
use Rattle.vm_frames.specs.Seen.{of}
use Rattle.vm_frames.specs.Environments.{envs_from, lists_around}
use Rattle.vm_frames.proofs.frames.Frames.lists_around.Given as goal

-- the lists that were found and those that are left are the whole
abbrev pub invariant-around : goal.invariant-around
invariant-around l =
    l.lists.items ++ envs_from (length (of l.self).around.envs - l._env) (of l.self).around.envs l.at
    ≡ lists_around (of l.self) l.frame
