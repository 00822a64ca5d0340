use Rattle.std.proofs.Common.{◌≡◌, ◌-◌}
use Rattle.iter_items.specs.Asking.{tested_from}
use Rattle.iter_items.specs.Sources.{left}
use Rattle.iter_items.proofs.asking.test_all.Given as goal

abbrev pub invariant-items : goal.invariant-items
invariant-items l = tested_from (left l.fn.heap.store l.fn.visit.source) l.fn.heap l.fn.visit
    ≡ tested_from (left l.fn.heap.store l.fn.visit.source - l._passed) l.heap l.visit
