use Rattle.std.proofs.Common.{◌≡◌, drop}
use Rattle.rows_class.specs.Attributes.{all_methods, with_names}
use Rattle.rows_class.proofs.accessors.define_each.Given as goal

abbrev pub invariant-names : goal.invariant-names
invariant-names l = all_methods l.which l.space l.fn.names l.fn.heap.store
    ≡ with_names l.defined.items (all_methods l.which l.space (drop l.name-index l.names) l.heap.store)
