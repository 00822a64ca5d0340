use Rattle.std.proofs.Common.{◌≡◌, ◌+◌, drop}
use Rattle.code_generator.specs.Gen.{len_rest}
use Rattle.code_generator.specs.Emission.{all_forms}
use Rattle.code_generator.proofs.measure.+lengths.Given as goal

abbrev pub invariant-length_all-loop-tree : goal.invariant-length_all-loop-tree
invariant-length_all-loop-tree l = l.sum + len_rest (all_forms (drop l.tree-index l.list)) ≡ len_rest (all_forms l.list)
