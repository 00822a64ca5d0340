use Rattle.std.proofs.Common.{◌≡◌, ◌-◌, ◌++◌}
use Rattle.rows_items.specs.Items.{numbers_from}
use Rattle.rows_items.proofs.items.numbers.Given as goal

abbrev pub invariant-numbers : goal.invariant-numbers
invariant-numbers l = numbers_from l.fn.first l.fn.count
    ≡ l.items.items ++ numbers_from l.number (l.fn.count - l.place)
