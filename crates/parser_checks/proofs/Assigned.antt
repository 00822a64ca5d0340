-- The nodes of assignments.
use Rattle.std.proofs.Common.{◌≡◌, ap, sym, ◌∙◌}
use Rattle.parser_tree.specs.declared.operator.AssignmentOperator.{AssignmentOperator}
use Rattle.parser_tree.specs.declared.tree.TreeForm as form
use Rattle.parser_tree.specs.declared.tree.TreeForm.{fold-roll-TreeForm}
use Rattle.parser_tree.specs.declared.tree.TreeForm.TheOpen.{TreeForm-F}
use Rattle.parser_tree.specs.declared.tree.TreeForm.TheVariants as variant
use Rattle.parser_tree.specs.Node as node
use Rattle.parser_tree.specs.Node.{Node}
use Rattle.parser_tree.specs.View.{Tree, form_view, view, view_step}
use Rattle.parser_tree.proofs.ViewsBy.{views}

pub view-Assign : (t e : Tree) → form_view (form.Assign t e) ≡ node.assign (view t) (view e)
view-Assign t e =
    ap form_view (sym (variant.rolls-Assign t e)) ∙ fold-roll-TreeForm Node view_step (TreeForm-F.Assign t e)

pub view-OperatorAssign : (t : Tree) (o : AssignmentOperator) (e : Tree)
    → form_view (form.OperatorAssign t o e) ≡ node.operator_assign (view t) o (view e)
view-OperatorAssign t o e =
    ap form_view (sym (variant.rolls-OperatorAssign t o e))
    ∙ fold-roll-TreeForm Node view_step (TreeForm-F.OperatorAssign t o e)

pub ruleset all_views = (views, view-Assign, view-OperatorAssign)
