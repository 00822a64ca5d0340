use Rattle.std.proofs.Common.{◌≡◌, ◌≤◌, drop}
use Rattle.std.specs.Prelude.{max}
use Rattle.code_generator.specs.Gen.{all_width}
use Rattle.code_generator.specs.Emission.{all_forms}
use Rattle.code_generator.proofs.measure.+widths.Given as goal

abbrev pub invariant-width_of_all-loop-tree : goal.invariant-width_of_all-loop-tree
invariant-width_of_all-loop-tree l = (1 ≤ l.widest)
    × (max l.widest (all_width (all_forms (drop l.tree-index l.list))) ≡ all_width (all_forms l.list))
