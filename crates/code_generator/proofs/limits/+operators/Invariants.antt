use Rattle.std.proofs.Common.{◌≡◌, drop}
use Rattle.code_generator.specs.Limits.{all_operations}
use Rattle.code_generator.specs.Built.{left_after}
use Rattle.code_generator.specs.Emission.{all_forms}
use Rattle.code_generator.proofs.limits.+operators.Given as goal

abbrev pub invariant-all_operators_left-loop-tree : goal.invariant-all_operators_left-loop-tree
invariant-all_operators_left-loop-tree l =
    left_after l.left (all_operations (all_forms (drop l.tree-index l.list))) ≡ left_after l.budget
    (all_operations (all_forms l.list))
