use Rattle.std.proofs.Common.{◌≡◌, ◌++◌, drop}
use Rattle.rows_array.specs.Lists.{present}
use Rattle.rows_array.proofs.arranging.compact.Given as goal

abbrev pub invariant-elements : goal.invariant-elements
invariant-elements l = present l.value-items ≡ l.values.items ++ present (drop l.value-index l.value-items)
