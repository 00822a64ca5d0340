use Rattle.std.proofs.Common.{◌≡◌, drop}
use Rattle.parser_tree.specs.PartsBy.{trees_by}
use Rattle.ir_core.specs.Forms.{append}
use Rattle.ir_core.specs.Parts.{cores}
use Rattle.lower_table.specs.Lowering.{passes, core_all}
use Rattle.lower_table.proofs.lists.lower_all.Given as goal

abbrev pub invariant-loop-tree : goal.invariant-loop-tree
invariant-loop-tree g l =
    append (cores l.all.items)
    (core_all (passes l.fn.passed) l.fn.depth (trees_by g.T.Whole.node (drop l.tree-index l.trees.items)))
    ≡ core_all (passes l.fn.passed) l.fn.depth (trees_by g.T.Whole.node l.trees.items)
