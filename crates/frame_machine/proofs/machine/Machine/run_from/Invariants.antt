use Rattle.std.proofs.Common.{◌≤◌, ◌-◌}
use Rattle.frame_machine.specs.declared.machine.Standing.TheVariants as stands
use Rattle.frame_machine.specs.Runs.{Goes}
use Rattle.frame_machine.specs.Standing.{Apart}
use Rattle.frame_machine.proofs.machine.Machine.run_from.Given as goal

-- what is done at a level counts no turns, and is the run so far
abbrev pub invariant-pauses : goal.invariant-pauses
invariant-pauses g l = record {
  apart : Apart l.fn.self l.self;
  goes : Goes l.fn.self l.fn.at l.budget l.left (stands.At l.at) l.self (g.O.Sink.taken l.fn.out)
      (g.O.Sink.taken l.out);
  fewer : l.left ≤ l.budget - l.made;
}
