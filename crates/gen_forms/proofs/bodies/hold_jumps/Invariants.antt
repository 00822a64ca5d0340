use Rattle.std.proofs.Common.{◌≡◌}
use Rattle.gen_parts.specs.Emission.{with_piece}
use Rattle.gen_forms.specs.Open.{held_jumps}
use Rattle.gen_forms.proofs.bodies.hold_jumps.Given as goal

abbrev pub invariant-loop-left : goal.invariant-loop-left
invariant-loop-left l =
    with_piece l.code (held_jumps l.left) ≡ with_piece l.fn.code (held_jumps l.jumps)

abbrev pub decreases-loop-left : goal.decreases-loop-left
decreases-loop-left l = l.left
