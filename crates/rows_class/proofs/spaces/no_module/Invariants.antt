use Rattle.std.proofs.Common.{◌≡◌, drop}
use Rattle.rows_class.specs.Spaces.{no_module}
use Rattle.rows_class.proofs.spaces.no_module.Given as goal

abbrev pub invariant-values : goal.invariant-values
invariant-values l = no_module l.heap.store l.fn.values ≡ no_module l.heap.store (drop l.value-index l.values)
