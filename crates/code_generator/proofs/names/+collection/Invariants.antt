use Rattle.std.proofs.Common.{◌≡◌, drop}
use Rattle.code_generator.specs.Names.{add_all}
use Rattle.code_generator.specs.Emission.{all_forms}
use Rattle.code_generator.proofs.names.+collection.Given as goal

abbrev pub invariant-collect_all-loop-tree : goal.invariant-collect_all-loop-tree
invariant-collect_all-loop-tree l = add_all l.names.items (all_forms (drop l.tree-index l.list)) ≡ add_all
    l.initial.names.items (all_forms l.list)
