use Rattle.std.proofs.Common.{◌≡◌, drop}
use Rattle.code_generator.specs.Limits.{all_parts}
use Rattle.code_generator.specs.Built.{left_after}
use Rattle.code_generator.specs.Emission.{all_forms}
use Rattle.code_generator.proofs.limits.+parts.Given as goal

abbrev pub invariant-all_parts_left-loop-tree : goal.invariant-all_parts_left-loop-tree
invariant-all_parts_left-loop-tree l =
    left_after l.left (all_parts (all_forms (drop l.tree-index l.list))) ≡ left_after l.budget
    (all_parts (all_forms l.list))
