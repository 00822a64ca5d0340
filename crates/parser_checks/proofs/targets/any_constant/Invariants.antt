use Rattle.std.proofs.Common.{◌≡◌, drop}
use Rattle.parser_tree.specs.PartsBy.{trees_by}
use Rattle.parser_checks.specs.Places.{any_constant}
use Rattle.parser_checks.proofs.targets.any_constant.Given as goal

abbrev pub invariant-loop-tree : goal.invariant-loop-tree
invariant-loop-tree g l =
    any_constant (trees_by g.T.Placed.node (drop l.tree-index l.trees.items))
    ≡ any_constant (trees_by g.T.Placed.node l.trees.items)
