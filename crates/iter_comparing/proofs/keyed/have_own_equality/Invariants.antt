use Rattle.std.proofs.Common.{◌≡◌, drop}
use Rattle.iter_comparing.specs.Keyed.{have_own_equality}
use Rattle.iter_comparing.proofs.keyed.have_own_equality.Given as goal

abbrev pub invariant-values : goal.invariant-values
invariant-values l = (have_own_equality l.fn.heap.store l.fn.equal l.fn.values
    ≡ have_own_equality l.fn.heap.store l.fn.equal (drop l.value-index l.values)) × (l.heap ≡ l.fn.heap)
