use Rattle.core_calls.specs.Flat.{Stands}
use Rattle.core_calls.proofs.flattening.flattened.Given as goal

abbrev pub invariant-values : goal.invariant-values
invariant-values l = Stands l.fn.empty l.heap.store.objects l.fn.values l.walk l.value-index
