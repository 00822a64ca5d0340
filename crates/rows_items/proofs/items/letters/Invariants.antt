use Rattle.std.proofs.Common.{◌≡◌, ◌-◌}
use Rattle.rows_items.specs.Items.{letters_from, items_after}
use Rattle.rows_items.proofs.items.letters.Given as goal

abbrev pub invariant-bytes : goal.invariant-bytes
invariant-bytes l = letters_from l.fn.first l.fn.count l.fn.heap
    ≡ items_after l.items.items (letters_from l.byte (l.fn.count - l.place) l.heap)
