use Rattle.std.proofs.Common.{◌≡◌, ◌++◌, [], drop}
use Rattle.iter_comparing.specs.Keyed.{noted, sought}
use Rattle.iter_comparing.proofs.keyed.sought.Given as goal

abbrev pub invariant-values : goal.invariant-values
invariant-values l = sought l.heap.store (noted l.heap.store [] l.others) l.among l.fn.values
    ≡ l.list.items ++ sought l.heap.store (noted l.heap.store [] l.others) l.among (drop l.value-index l.values)
