use Rattle.std.proofs.Common.{◌≡◌, drop}
use Rattle.code_generator.specs.Gen.{any_calls_puts}
use Rattle.code_generator.specs.Emission.{all_forms}
use Rattle.code_generator.proofs.program.+calls.Given as goal

abbrev pub invariant-one_calls_puts-loop-tree : goal.invariant-one_calls_puts-loop-tree
invariant-one_calls_puts-loop-tree l = any_calls_puts (all_forms (drop l.tree-index l.list)) ≡ any_calls_puts
    (all_forms l.list)
