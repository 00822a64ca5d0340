-- The core of a tree, by the law of its node.
use Rattle.std.proofs.Common.{◌≡◌, ℕ, List, Option, Result, IfOk, ap, sym, ◌∙◌, subst}
use Rattle.rb_base.specs.declared.list.Bytes.{Bytes}
use Rattle.parser_tree.specs.declared.tree.TreeForm as form
use Rattle.parser_tree.specs.declared.tree.TreeForm.{TreeForm}
use Rattle.parser_tree.specs.declared.tree.Arguments.{Arguments}
use Rattle.parser_tree.specs.declared.tree.Definition.{Definition}
use Rattle.parser_tree.specs.declared.tree.PlainBody.{PlainBody}
use Rattle.parser_tree.specs.declared.tree.Scope.{Scope}
use Rattle.parser_tree.specs.Node as node
use Rattle.parser_tree.specs.Node.{Node}
use Rattle.parser_tree.specs.View.{Tree, form_view}
use Rattle.ir_core.specs.CoreForm.{CoreForm}
use Rattle.ir_core.specs.View.{Core, core_view}
use Rattle.lower_table.specs.Lowering.{Passed, core}
use Rattle.parser_tree.specs.PartsBy as by
use Rattle.parser_tree.proofs.ViewsBy.{view-Call, view-Define, view-Class, view-Module}

pub shown-by : {E : Type 0} (r : Result Core E) (g : Node → CoreForm) (t s : TreeForm) (n : Node) → t ≡ s
    → form_view s ≡ n
    → IfOk r (λ c. core_view c ≡ g n) → IfOk r (λ c. core_view c ≡ g (form_view t))
shown-by r g t s n is law h = subst (λ m. IfOk r (λ c. core_view c ≡ g m)) (sym (ap form_view is ∙ law)) h

pub lowered-by : {E : Type 0} (r : Result Core E) (p : Passed) (d : ℕ) (t s : TreeForm) (n : Node) → t ≡ s
    → form_view s ≡ n
    → IfOk r (λ c. core_view c ≡ core p d n) → IfOk r (λ c. core_view c ≡ core p d (form_view t))
lowered-by r p d t s n is law h = shown-by r (core p d) t s n is law h

-- with the name as it was passed
pub call-by : (r : Option Tree) (x : Bytes) (y : List ℕ) (a : Option (Arguments Tree)) (b : Option (Definition Tree))
    → y ≡ x
    → form_view (form.Call r x a b)
    ≡ node.call (by.boxed_by form_view r) y (by.arguments_by form_view a) (by.block_by form_view b)
call-by r x y a b same =
    view-Call r x a b ∙ ap (λ z. node.call (by.boxed_by form_view r) z (by.arguments_by form_view a)
    (by.block_by form_view b)) (sym same)

pub define-by : (s : Option Tree) (x : Bytes) (y : List ℕ) (d : Definition Tree) → y ≡ x
    → form_view (form.Define s x d) ≡ node.define (by.boxed_by form_view s) y (by.definition_by form_view d)
define-by s x y d same =
    view-Define s x d ∙ ap (λ z. node.define (by.boxed_by form_view s) z (by.definition_by form_view d)) (sym same)

pub class-by : (s : Scope Tree) (x : Bytes) (y : List ℕ) (p : Option Tree) (b : PlainBody Tree) → y ≡ x
    → form_view (form.Class s x p b)
    ≡ node.class_node (by.scope_by form_view s) y (by.boxed_by form_view p) b.locals (by.tree_by form_view b.body)
class-by s x y p b same =
    view-Class s x p b ∙ ap (λ z. node.class_node (by.scope_by form_view s) z (by.boxed_by form_view p)
    b.locals (by.tree_by form_view b.body)) (sym same)

pub module-by : (s : Scope Tree) (x : Bytes) (y : List ℕ) (b : PlainBody Tree) → y ≡ x
    → form_view (form.Module s x b)
    ≡ node.module_node (by.scope_by form_view s) y b.locals (by.tree_by form_view b.body)
module-by s x y b same =
    view-Module s x b ∙ ap (λ z. node.module_node (by.scope_by form_view s) z b.locals (by.tree_by form_view b.body))
    (sym same)
