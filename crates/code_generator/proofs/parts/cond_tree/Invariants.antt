use Rattle.std.proofs.Common.{◌≡◌, ◌≤◌, drop, length}
use Rattle.ir_core.specs.PartsBy as by
use Rattle.code_generator.specs.Built.{cond_of, form_of}
use Rattle.code_generator.specs.Emission.{form_in}
use Rattle.code_generator.proofs.parts.cond_tree.Given as goal

abbrev pub invariant-branches : goal.invariant-branches
invariant-branches g l =
    (l.left ≤ length l.branches.items) × (cond_of (by.branches_by g.T.Formed.core (drop l.left l.branches.items))
    (form_of (by.core_by g.T.Formed.core l.otherwise)) ≡ form_in l.tree)

abbrev pub decreases-branches : goal.decreases-branches
decreases-branches g l = l.left
