use Rattle.std.proofs.Common.{◌≡◌, ◌-◌}
use Rattle.heap.specs.Copies.{steps, with_method_at}
use Rattle.heap.proofs.heap.Heap.copy_methods.Given as goal

abbrev pub invariant-names : goal.invariant-names
invariant-names l = steps (with_method_at l.made l.id) l.count 0 l.fn.self.store
    ≡ steps (with_method_at l.made l.id) (l.count - l.number) l.number l.self.store
