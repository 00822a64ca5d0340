use Rattle.std.proofs.Common.{◌≡◌, take}
use Rattle.rows_hash.specs.Pairs.{pairs, values}
use Rattle.rows_hash.proofs.pairs.values.Given as goal

abbrev pub invariant-pairs : goal.invariant-pairs
invariant-pairs l = l.values.items ≡ values (take l.place (pairs l.heap.store l.id))
