use Rattle.std.proofs.Common.{◌≡◌, take}
use Rattle.rows_hash.specs.Pairs.{pairs, shown_keys}
use Rattle.rows_hash.proofs.pairs.keys.Given as goal

abbrev pub invariant-pairs : goal.invariant-pairs
invariant-pairs l = l.keys.items ≡ shown_keys (take l.place (pairs l.heap.store l.id))
