use Rattle.std.proofs.Common.{◌≡◌}
use Rattle.core_iter.specs.Filling.{copies}
use Rattle.core_iter.proofs.filling.copies.Given as goal

abbrev pub invariant-values : goal.invariant-values
invariant-values l = l.values.items ≡ copies l._done l.value
