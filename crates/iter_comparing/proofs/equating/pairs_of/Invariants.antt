use Rattle.std.proofs.Common.{◌≡◌, take}
use Rattle.iter_comparing.specs.Hashes.{items, pairs}
use Rattle.iter_comparing.proofs.equating.pairs_of.Given as goal

abbrev pub invariant-pairs : goal.invariant-pairs
invariant-pairs l = l.pairs.items ≡ items (take l.place (pairs l.heap.store l.hash))
