use Rattle.std.proofs.Common.{◌≡◌, drop}
use Rattle.code_generator.specs.Limits.{have_short_sums}
use Rattle.code_generator.specs.Emission.{all_forms}
use Rattle.code_generator.proofs.limits.+sums.Given as goal

abbrev pub invariant-have_short_sums-loop-tree : goal.invariant-have_short_sums-loop-tree
invariant-have_short_sums-loop-tree l = have_short_sums (all_forms (drop l.tree-index l.list)) ≡ have_short_sums
    (all_forms l.list)
