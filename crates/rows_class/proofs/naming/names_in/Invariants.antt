use Rattle.std.proofs.Common.{◌≡◌, drop}
use Rattle.rows_class.specs.Names.{names_in, after_names}
use Rattle.rows_class.proofs.naming.names_in.Given as goal

abbrev pub invariant-values : goal.invariant-values
invariant-values l = names_in l.fn.values l.fn.heap.store
    ≡ after_names l.names.items (names_in (drop l.value-index l.values) l.heap.store)
