-- The node of a tree is no part of one.
use Rattle.std.proofs.Common.{◌≡◌, true, refl, ap, ◌∙◌}
use Rattle.parser_tree.specs.Node.{Node}
use Rattle.parser_tree.specs.View as of
use Rattle.parser_tree.specs.View.{form_view}
use Rattle.parser_tree.specs.declared.tree.TreeForm.{TreeForm, fold_out-TreeForm}
use Rattle.parser_tree.specs.declared.tree.TreeForm.TheOpen.{TreeForm-F}
use Rattle.lower_table.specs.Parts.{is_tree}

step-is_tree : (l : TreeForm-F Node) → is_tree (of.view_step l) ≡ true
step-is_tree TreeForm-F.Nil = refl
step-is_tree form = refl

pub view-is_tree : (t : TreeForm) → is_tree (form_view t) ≡ true
view-is_tree t = ap is_tree (fold_out-TreeForm Node of.view_step t) ∙ step-is_tree _
