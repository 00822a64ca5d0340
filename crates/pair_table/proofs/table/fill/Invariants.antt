use Rattle.std.proofs.Common.{◌≡◌, ◌≤◌, ◌++◌, length}
use Rattle.std.specs.Vec.Iter.{into_iter_items, into_iter_len}
use Rattle.indexmap.specs.IndexMap.{spare}
use Rattle.pair_table.proofs.table.fill.Given as goal

abbrev pub invariant-pairs : goal.invariant-pairs
invariant-pairs g l =
    (l.table.entries ++ into_iter_items l.pair-iterator ≡ l.fn.pairs.items)
    × (length (into_iter_items l.pair-iterator) ≤ spare l.table)
    × (into_iter_len l.pair-iterator ≡ length (into_iter_items l.pair-iterator))
