use Rattle.std.proofs.Common.{◌≡◌, drop}
use Rattle.rows_items.specs.Keyed.{tallied_in}
use Rattle.rows_items.proofs.keyed.count_all.Given as goal

abbrev pub invariant-values : goal.invariant-values
invariant-values l = tallied_in l.fn.heap l.fn.id l.fn.values ≡ tallied_in l.heap l.id (drop l.value-index l.values)
