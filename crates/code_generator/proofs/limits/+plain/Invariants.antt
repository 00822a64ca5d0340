use Rattle.std.proofs.Common.{◌≡◌, drop}
use Rattle.code_generator.specs.Limits.{are_plain}
use Rattle.code_generator.specs.Emission.{all_forms}
use Rattle.code_generator.proofs.limits.+plain.Given as goal

abbrev pub invariant-are_plain-loop-tree : goal.invariant-are_plain-loop-tree
invariant-are_plain-loop-tree l = are_plain (all_forms (drop l.tree-index l.list)) ≡ are_plain (all_forms l.list)
