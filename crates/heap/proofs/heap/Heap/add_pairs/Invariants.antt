use Rattle.std.proofs.Common.{◌≡◌, ◌-◌}
use Rattle.heap.specs.Copies.{steps, with_pair_at}
use Rattle.heap.proofs.heap.Heap.add_pairs.Given as goal

abbrev pub invariant-pairs : goal.invariant-pairs
invariant-pairs l = record {
  same : steps (with_pair_at l.to l.from) l.count 0 l.fn.self.store
      ≡ steps (with_pair_at l.to l.from) (l.count - l.place) l.place l.self.store;
  counted : l.self.changes ≡ l.fn.self.changes;
}
