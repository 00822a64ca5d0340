use Rattle.std.proofs.Common.{◌≡◌}
use Rattle.path_machine.specs.Course.{course}
use Rattle.path_machine.proofs.Loop.{Reached}
use Rattle.path_machine.proofs.running.turns.Given as goal

abbrev pub invariant-turns : goal.invariant-turns
invariant-turns g l =
    Reached (course l.body l.budget 0 l.fn.registers) (course l.body l.left l.place l.registers)
    (g.O.Sink.taken l.fn.out) (g.O.Sink.taken l.out)
    × (g.O.Sink.faults l.out ≡ g.O.Sink.faults l.fn.out)

abbrev pub decreases-turns : goal.decreases-turns
decreases-turns g l = l.left
