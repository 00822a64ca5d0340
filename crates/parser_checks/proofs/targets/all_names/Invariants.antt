use Rattle.std.proofs.Common.{◌≡◌, ◌++◌, drop}
use Rattle.parser_tree.specs.PartsBy.{trees_by}
use Rattle.parser_checks.specs.Doubled.{all_bound}
use Rattle.parser_checks.proofs.targets.all_names.Given as goal

abbrev pub invariant-loop-tree : goal.invariant-loop-tree
invariant-loop-tree g l =
    l.names ++ all_bound (trees_by g.T.Placed.node (drop l.tree-index l.trees.items))
    ≡ l.fn.names ++ all_bound (trees_by g.T.Placed.node l.trees.items)
