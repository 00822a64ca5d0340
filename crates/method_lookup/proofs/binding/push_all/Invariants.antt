use Rattle.std.proofs.Common.{◌≡◌, ◌++◌, take}
use Rattle.method_lookup.proofs.binding.push_all.Given as goal

abbrev pub invariant-loop-value : goal.invariant-loop-value
invariant-loop-value l = record { so_far : l.list ≡ l.fn.list ++ take l.value-index l.values }
