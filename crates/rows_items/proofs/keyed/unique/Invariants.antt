use Rattle.std.proofs.Common.{◌≡◌, drop}
use Rattle.rows_items.specs.Told.{with_front}
use Rattle.rows_items.specs.Keyed.{unique, unique_after}
use Rattle.rows_items.proofs.keyed.unique.Given as goal

abbrev pub invariant-values : goal.invariant-values
invariant-values l = unique l.heap.store l.fn.values
    ≡ with_front l.unique.items (unique_after l.heap.store l.seen (drop l.value-index l.values))
