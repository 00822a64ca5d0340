use Rattle.std.proofs.Common.{◌≡◌, drop}
use Rattle.heap.specs.Copies.{with_variables}
use Rattle.heap.proofs.heap.Heap.set_variables.Given as goal

abbrev pub invariant-variables : goal.invariant-variables
invariant-variables l = record {
  same : with_variables l.fn.self.store l.made l.variables
      ≡ with_variables l.self.store l.made (drop l.variable-index l.variables);
  counted : l.self.changes ≡ l.fn.self.changes;
}
