use Rattle.std.proofs.Common.{◌≡◌, drop}
use Rattle.parser_tree.specs.PartsBy.{branches_by}
use Rattle.parser_checks.specs.Places.{walk_all}
use Rattle.parser_checks.proofs.parts.check_branches.Given as goal

abbrev pub invariant-loop-branch : goal.invariant-loop-branch
invariant-loop-branch g l =
    walk_all l.context.around (branches_by g.T.Placed.node (drop l.branch-index l.branches.items)) l.found
    ≡ walk_all l.context.around (branches_by g.T.Placed.node l.branches.items) l.fn.best
