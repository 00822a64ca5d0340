use Rattle.std.proofs.Common.{◌≡◌, drop, map}
use Rattle.run_rows.specs.Opening.{at, names_of, with_names}
use Rattle.run_rows.proofs.opening.Places.add_all.Given as goal

abbrev pub invariant-rows : goal.invariant-rows
invariant-rows g l = record {
  class : l.self.class ≡ l.fn.self.class;
  same : with_names l.fn.self.class (at l.heap.store l.self.number) (names_of (map (λ r. (r.0.now, r.1)) (drop l.row-index l.rows)))
      ≡ with_names l.fn.self.class (at l.fn.heap.store l.fn.self.number) (names_of (map (λ r. (r.0.now, r.1)) l.rows));
}
