use Rattle.std.proofs.Common.{◌≡◌, [], drop}
use Rattle.iter_comparing.specs.Keyed.{noted}
use Rattle.iter_comparing.proofs.keyed.noted.Given as goal

abbrev pub invariant-values : goal.invariant-values
invariant-values l = noted l.heap.store [] l.fn.values ≡ noted l.heap.store l.seen (drop l.value-index l.values)
