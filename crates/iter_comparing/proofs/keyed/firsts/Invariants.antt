use Rattle.std.proofs.Common.{◌≡◌, ◌++◌, [], drop}
use Rattle.iter_comparing.specs.Keyed.{firsts}
use Rattle.iter_comparing.proofs.keyed.firsts.Given as goal

abbrev pub invariant-values : goal.invariant-values
invariant-values l = firsts l.heap.store [] l.fn.values
    ≡ l.list.items ++ firsts l.heap.store l.seen (drop l.value-index l.values)
