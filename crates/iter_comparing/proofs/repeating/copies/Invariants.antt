use Rattle.std.proofs.Common.{◌≡◌}
use Rattle.iter_comparing.specs.Repeating.{repeated}
use Rattle.iter_comparing.proofs.repeating.copies.Given as goal

abbrev pub invariant-times : goal.invariant-times
invariant-times l = l.values.items ≡ repeated l._done l.elements
