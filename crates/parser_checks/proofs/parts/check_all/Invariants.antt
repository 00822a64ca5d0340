use Rattle.std.proofs.Common.{◌≡◌, drop}
use Rattle.parser_tree.specs.PartsBy.{trees_by}
use Rattle.parser_checks.specs.Places.{walk_all}
use Rattle.parser_checks.proofs.parts.check_all.Given as goal

abbrev pub invariant-loop-tree : goal.invariant-loop-tree
invariant-loop-tree g l =
    walk_all l.context.around (trees_by g.T.Placed.node (drop l.tree-index l.trees.items)) l.found
    ≡ walk_all l.context.around (trees_by g.T.Placed.node l.trees.items) l.fn.best
