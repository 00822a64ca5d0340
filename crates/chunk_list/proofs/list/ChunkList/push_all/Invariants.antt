use Rattle.std.proofs.Common.{◌≡◌, ◌≤◌, ◌++◌, length, take}
use Rattle.std.specs.Vec.Iter.{into_iter_items, into_iter_len}
use Rattle.chunk_list.proofs.list.ChunkList.push_all.Given as goal

abbrev pub invariant-values : goal.invariant-values
invariant-values g l =
    (l.self ++ into_iter_items l.value-iterator ≡ l.fn.self ++ l.fn.values.items)
    × (take (length l.fn.self) l.self ≡ l.fn.self)
    × (length l.fn.self ≤ length l.self)
    × (into_iter_len l.value-iterator ≡ length (into_iter_items l.value-iterator))
