use Rattle.std.proofs.Common.{◌≡◌, drop}
use Rattle.parser_tree.specs.PartsBy.{branches_by}
use Rattle.ir_core.specs.Forms.{append_branches}
use Rattle.ir_core.specs.Parts as part
use Rattle.lower_table.specs.Lowering.{passes, branches}
use Rattle.lower_table.proofs.branches.lower_branches.Given as goal

abbrev pub invariant-loop-branch : goal.invariant-loop-branch
invariant-loop-branch g l =
    append_branches (part.branches l.all.items)
    (branches (passes l.fn.passed) l.fn.depth (branches_by g.T.Whole.node (drop l.branch-index l.branches.items)))
    ≡ branches (passes l.fn.passed) l.fn.depth (branches_by g.T.Whole.node l.branches.items)
