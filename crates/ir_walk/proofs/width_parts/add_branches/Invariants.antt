use Rattle.std.proofs.Common.{◌≡◌, ◌++◌, drop}
use Rattle.ir_core.specs.PartsBy.{branches_by}
use Rattle.ir_walk.specs.Width.{branch_widths}
use Rattle.ir_walk.proofs.width_parts.add_branches.Given as goal

abbrev pub invariant-loop-branch : goal.invariant-loop-branch
invariant-loop-branch g l =
    l.all.items ++ branch_widths (branches_by g.T.Measured.form (drop l.branch-index l.branches.items)) ≡ l.fn.all.items
    ++ branch_widths (branches_by g.T.Measured.form l.branches.items)
