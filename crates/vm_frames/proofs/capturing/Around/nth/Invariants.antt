use Rattle.std.proofs.Common.{◌≡◌, ◌-◌}
use Rattle.vm_frames.specs.Seen.{around_of}
use Rattle.vm_frames.specs.Environments.{around_env}
use Rattle.vm_frames.proofs.capturing.Around.nth.Given as goal

-- so many are left to be passed
abbrev pub invariant-around : goal.invariant-around
invariant-around l = around_env (around_of l.self).envs l.at (l.c - l._level)
    ≡ around_env (around_of l.self).envs l.fn.outer l.c
