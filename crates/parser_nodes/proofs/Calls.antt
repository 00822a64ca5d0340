-- The nodes of calls, by their arguments and their block.
use Rattle.std.proofs.Common.{◌≡◌, ℕ, Option, Some, None, refl, ap, sym, ◌∙◌}
use Rattle.rb_base.specs.declared.list.Bytes.{Bytes}
use Rattle.parser_tree.specs.declared.tree.TreeForm as form
use Rattle.parser_tree.specs.declared.tree.Arguments.{Arguments}
use Rattle.parser_tree.specs.declared.tree.Definition.{Definition}
use Rattle.parser_tree.specs.Node as node
use Rattle.parser_tree.specs.Parts as part
use Rattle.parser_tree.specs.View.{form_view, Tree, view}
use Rattle.parser_tree.proofs.Views.{view-Call, view-Super}
use Rattle.parser_nodes.specs.Calls.{given_view, given_node, given_block, block_node}
use Rattle.parser_nodes.proofs.Lists.{same_items}

same_given : (a : Option (Arguments Tree)) → part.arguments a ≡ given_node (given_view a)
same_given None = refl
same_given (Some a) = ap (λ is. node.one (node.arguments is (part.boxed a.block))) (sym (same_items a.items.items))

same_block : (b : Option (Definition Tree)) → part.block b ≡ block_node (given_block b)
same_block None = refl
same_block (Some d) = refl

-- a call without a receiver
pub name_call_of : (x : Bytes) (a : Option (Arguments Tree)) (b : Option (Definition Tree))
    → form_view (form.Call None x a b) ≡ node.call node.none x (given_node (given_view a)) (block_node (given_block b))
name_call_of x a b =
    view-Call None x a b ∙ (ap (λ given. node.call node.none x given (part.block b)) (same_given a) ∙
    ap (node.call node.none x (given_node (given_view a))) (same_block b))

-- a call on a receiver
pub method_call_of : (r : Tree) (x : Bytes) (a : Option (Arguments Tree)) (b : Option (Definition Tree))
    → form_view (form.Call (Some r) x a b) ≡ node.call (node.one (view r)) x (given_node (given_view a))
    (block_node (given_block b))
method_call_of r x a b =
    view-Call (Some r) x a b ∙ (ap (λ given. node.call (node.one (view r)) x given (part.block b)) (same_given a) ∙
    ap (node.call (node.one (view r)) x (given_node (given_view a))) (same_block b))

pub super_call_of : (a : Option (Arguments Tree)) (b : Option (Definition Tree)) (at : ℕ)
    → form_view (form.Super a b at) ≡ node.super_node at (given_node (given_view a)) (block_node (given_block b))
super_call_of a b at =
    view-Super a b at ∙ (ap (λ given. node.super_node at given (part.block b)) (same_given a)
    ∙ ap (node.super_node at (given_node (given_view a))) (same_block b))
