use Rattle.std.proofs.Common.{◌≡◌, drop}
use Rattle.vm_steps.specs.Collections.{pairs_put}
use Rattle.vm_steps.proofs.Pairing.{pending}
use Rattle.vm_steps.proofs.collections.add_pairs.Given as goal

-- what is left to put leads to the same
abbrev pub invariant-values : goal.invariant-values
invariant-values l =
    pairs_put l.id l.fn.heap l.fn.values ≡ pairs_put l.id l.heap (pending l.key (drop l.value-index l.values))
