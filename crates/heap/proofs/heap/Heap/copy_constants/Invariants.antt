use Rattle.std.proofs.Common.{◌≡◌, ◌-◌}
use Rattle.heap.specs.Copies.{steps, with_constant_at}
use Rattle.heap.proofs.heap.Heap.copy_constants.Given as goal

abbrev pub invariant-constants : goal.invariant-constants
invariant-constants l = steps (with_constant_at l.made l.id) l.count 0 l.fn.self.store
    ≡ steps (with_constant_at l.made l.id) (l.count - l.place) l.place l.self.store
