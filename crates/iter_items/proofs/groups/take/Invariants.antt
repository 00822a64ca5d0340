use Rattle.std.proofs.Common.{◌≡◌, ◌-◌}
use Rattle.iter_items.specs.Asking.{taken, put_before}
use Rattle.iter_items.proofs.groups.take.Given as goal

abbrev pub invariant-items : goal.invariant-items
invariant-items l = taken l.fn.most l.fn.heap l.fn.source
    ≡ put_before l.items.items (taken (l.fn.most - l._taken) l.heap l.source)
