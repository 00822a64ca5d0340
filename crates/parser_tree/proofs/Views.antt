-- The node of a tree, by the nodes of its parts.
use Rattle.std.proofs.Common.{◌≡◌, Option, Some, None, List, map, ℕ, refl, ap, sym, ◌∙◌, Vec}
use Rattle.std.specs.declared.alloc.Global.{Global}
use Rattle.rb_syntax.specs.declared.core_form.Item.{Item}
use Rattle.rb_syntax.specs.declared.core_form.Item.TheVariants.{Plain, Splat}
use Rattle.rb_syntax.specs.declared.core_form.Pair.{Pair}
use Rattle.rb_syntax.specs.declared.core_form.Branch.{Branch}
use Rattle.parser_tree.specs.declared.tree.TreeForm as form
use Rattle.parser_tree.specs.declared.tree.TreeForm.{fold-roll-TreeForm}
use Rattle.parser_tree.specs.declared.tree.TreeForm.TheOpen.{TreeForm-F}
use Rattle.parser_tree.specs.declared.tree.TreeForm.TheVariants as variant
use Rattle.parser_tree.specs.declared.tree.Piece.{Piece}
use Rattle.parser_tree.specs.declared.tree.Piece.TheVariants.{Text, Interpolation}
use Rattle.parser_tree.specs.declared.tree.Arguments.{Arguments}
use Rattle.parser_tree.specs.declared.tree.Parameter.{Parameter}
use Rattle.parser_tree.specs.declared.tree.Parameter.TheVariants as parameter
use Rattle.parser_tree.specs.declared.tree.Definition.{Definition}
use Rattle.parser_tree.specs.declared.tree.PlainBody.{PlainBody}
use Rattle.parser_tree.specs.declared.tree.RescueClause.{RescueClause}
use Rattle.parser_tree.specs.declared.tree.RescueBody.{RescueBody}
use Rattle.parser_tree.specs.declared.tree.WhenClause.{WhenClause}
use Rattle.parser_tree.specs.declared.tree.TargetList.{TargetList}
use Rattle.parser_tree.specs.declared.tree.Scope.{Scope}
use Rattle.parser_tree.specs.declared.tree.Scope.TheVariants.{Innermost, Top, In}
use Rattle.rb_base.specs.declared.list.Bytes.{Bytes}
use Rattle.rb_syntax.specs.declared.outside.Outside.{Outside}
use Rattle.parser_tree.specs.Node as node
use Rattle.parser_tree.specs.Node.{Node, Nodes, nodes}
use Rattle.parser_tree.specs.View as of
use Rattle.parser_tree.specs.View.{Tree, Held, form_view, view}
use Rattle.parser_tree.specs.Parts as part
use Rattle.parser_tree.proofs.Fused.{fused}

items-fused : (g : Item Tree → Item Held) → ((e : Tree) → of.held_item (g (Plain e)) ≡ view e)
    → ((e : Tree) → of.held_item (g (Splat e)) ≡ node.splat (view e))
    → (is : List (Item Tree)) → of.held_items (map g is) ≡ part.items is
items-fused g p s is = fused of.held_item part.item_node g
    (λ i. elim i as (λ i. of.held_item (g i) ≡ part.item_node i) [ Plain e ↦ p e | Splat e ↦ s e ]) is

trees-fused : (g : Tree → Held) → ((e : Tree) → (g e).value ≡ view e) → (ts : List Tree)
    → of.all_held (map g ts) ≡ part.trees ts
trees-fused g e ts = fused of.held view g e ts

pieces-fused : (g : Piece Tree → Piece Held) → ((bytes : _) → of.piece_of (g (Text bytes)) ≡ node.piece bytes)
    → ((e : Tree) → of.piece_of (g (Interpolation e)) ≡ view e)
    → (ps : List (Piece Tree)) → nodes (map of.piece_of (map g ps)) ≡ nodes (map part.piece_node ps)
pieces-fused g t i ps = fused of.piece_of part.piece_node g
    (λ p. elim p as (λ p. of.piece_of (g p) ≡ part.piece_node p) [ Text bytes ↦ t bytes | Interpolation e ↦ i e ]) ps

parameters-fused : (g : Parameter Tree → Parameter Held)
    → ((x : _) → of.parameter_of (g (parameter.Name x)) ≡ node.name_parameter x)
    → ((e : Tree) → of.parameter_of (g (parameter.Pattern e)) ≡ view e)
    → (ps : List (Parameter Tree)) → nodes (map of.parameter_of (map g ps)) ≡ nodes (map part.parameter_node ps)
parameters-fused g n e ps =
    fused of.parameter_of part.parameter_node g
    (λ p. elim p as (λ p. of.parameter_of (g p) ≡ part.parameter_node p) [
      | parameter.Name x ↦ n x
      | parameter.Pattern t ↦ e t
    ]) ps

ap2 : {A B C : Type 0} (f : A → B → C) {a a' : A} {b b' : B} → a ≡ a' → b ≡ b' → f a b ≡ f a' b'
ap2 f p q = cc

rescues-fused : (g : RescueClause Tree → RescueClause Held)
    → ((c : RescueClause Tree) → of.rescue_of (g (record c { target = None })) ≡ part.rescue_node
    (record c { target = None }))
    → ((c : RescueClause Tree) (b : Tree) → of.rescue_of (g (record c { target = Some b })) ≡ part.rescue_node
    (record c { target = Some b }))
    → (cs : List (RescueClause Tree)) → nodes (map of.rescue_of (map g cs)) ≡ nodes (map part.rescue_node cs)
rescues-fused g n s cs =
    fused of.rescue_of part.rescue_node g (λ c. elim c.target as
    (λ t. of.rescue_of (g (record c { target = t })) ≡ part.rescue_node (record c { target = t })) [
      | None ↦ n c
      | Some b ↦ s c b
    ]) cs

-- the node of a definition, from its three lists of parameters that are no names
same-definition : (d : Definition Tree) {r o p q : Nodes}
    → r ≡ nodes (map part.parameter_node d.parameters.required.items)
    → o ≡ nodes (map part.optional_node d.parameters.optional.items)
    → p ≡ nodes (map part.parameter_node d.parameters.post.items)
    → q ≡ part.trees d.parameters.outside.items
    → node.definition d.at r o d.parameters.rest p d.parameters.block q d.locals (view d.body) ≡ part.definition_node d
same-definition d e f g h = cc

pub view-Array : (v : Vec (Item Tree) Global) → form_view (form.Array v) ≡ node.array (part.items v.items)
view-Array v =
    ap form_view (sym (variant.rolls-Array v)) ∙ (fold-roll-TreeForm Node of.view_step (TreeForm-F.Array v) ∙
    ap node.array (items-fused _ (λ e. refl) (λ e. refl) v.items))

pub view-Text : (v : Vec (Piece Tree) Global)
    → form_view (form.Text v) ≡ node.text (nodes (map part.piece_node v.items))
view-Text v =
    ap form_view (sym (variant.rolls-Text v)) ∙ (fold-roll-TreeForm Node of.view_step (TreeForm-F.Text v) ∙
    ap node.text (pieces-fused _ (λ s. refl) (λ e. refl) v.items))

pub view-SymbolText : (v : Vec (Piece Tree) Global)
    → form_view (form.SymbolText v) ≡ node.symbol_text (nodes (map part.piece_node v.items))
view-SymbolText v =
    ap form_view (sym (variant.rolls-SymbolText v)) ∙ (fold-roll-TreeForm Node of.view_step (TreeForm-F.SymbolText v) ∙
    ap node.symbol_text (pieces-fused _ (λ s. refl) (λ e. refl) v.items))

pub view-Hash : (v : Vec (Pair Tree) Global) → form_view (form.Hash v) ≡ node.hash (nodes (map part.pair_node v.items))
view-Hash v =
    ap form_view (sym (variant.rolls-Hash v)) ∙ (fold-roll-TreeForm Node of.view_step (TreeForm-F.Hash v) ∙
    ap node.hash (fused of.held_pair part.pair_node _ (λ p. refl) v.items))

pub view-If : (v : Vec (Branch Tree) Global) (o : Option (Tree))
    → form_view (form.If v o) ≡ node.if_node (nodes (map part.branch_node v.items)) (part.boxed o)
view-If v None =
    ap form_view (sym (variant.rolls-If v None)) ∙ (fold-roll-TreeForm Node of.view_step (TreeForm-F.If v None) ∙
    ap (λ bs. node.if_node bs (part.boxed None)) (fused of.branch_of part.branch_node _ (λ p. refl) v.items))
view-If v (Some o) =
    ap form_view (sym (variant.rolls-If v (Some o)))
    ∙ (fold-roll-TreeForm Node of.view_step (TreeForm-F.If v (Some o)) ∙
    ap (λ bs. node.if_node bs (part.boxed (Some o))) (fused of.branch_of part.branch_node _ (λ p. refl) v.items))

pub view-Unless : (t b : Tree) (o : Option (Tree))
    → form_view (form.Unless t b o) ≡ node.unless_node (view t) (view b) (part.boxed o)
view-Unless t b None =
    ap form_view (sym (variant.rolls-Unless t b None))
    ∙ fold-roll-TreeForm Node of.view_step (TreeForm-F.Unless t b None)
view-Unless t b (Some o) =
    ap form_view (sym (variant.rolls-Unless t b (Some o)))
    ∙ fold-roll-TreeForm Node of.view_step (TreeForm-F.Unless t b (Some o))

pub view-Case : (s : Option (Tree)) (v : Vec (WhenClause Tree) Global) (o : Option (Tree))
    → form_view (form.Case s v o) ≡ node.case_node (part.boxed s) (nodes (map part.when_node v.items)) (part.boxed o)
view-Case None v None =
    ap form_view (sym (variant.rolls-Case None v None))
    ∙ (fold-roll-TreeForm Node of.view_step (TreeForm-F.Case None v None) ∙
    ap (λ cs. node.case_node (part.boxed None) cs (part.boxed None))
    (fused of.when_of part.when_node _ (λ c. ap (λ ts. node.when_clause ts (view c.body))
    (trees-fused _ (λ e. refl) c.tests.items)) v.items))
view-Case None v (Some o) =
    ap form_view (sym (variant.rolls-Case None v (Some o)))
    ∙ (fold-roll-TreeForm Node of.view_step (TreeForm-F.Case None v (Some o)) ∙
    ap (λ cs. node.case_node (part.boxed None) cs (part.boxed (Some o)))
    (fused of.when_of part.when_node _ (λ c. ap (λ ts. node.when_clause ts (view c.body))
    (trees-fused _ (λ e. refl) c.tests.items)) v.items))
view-Case (Some s) v None =
    ap form_view (sym (variant.rolls-Case (Some s) v None))
    ∙ (fold-roll-TreeForm Node of.view_step (TreeForm-F.Case (Some s) v None) ∙
    ap (λ cs. node.case_node (part.boxed (Some s)) cs (part.boxed None))
    (fused of.when_of part.when_node _ (λ c. ap (λ ts. node.when_clause ts (view c.body))
    (trees-fused _ (λ e. refl) c.tests.items)) v.items))
view-Case (Some s) v (Some o) =
    ap form_view (sym (variant.rolls-Case (Some s) v (Some o)))
    ∙ (fold-roll-TreeForm Node of.view_step (TreeForm-F.Case (Some s) v (Some o)) ∙
    ap (λ cs. node.case_node (part.boxed (Some s)) cs (part.boxed (Some o)))
    (fused of.when_of part.when_node _ (λ c. ap (λ ts. node.when_clause ts (view c.body))
    (trees-fused _ (λ e. refl) c.tests.items)) v.items))

pub view-Index : (e : Tree) (v : Vec (Item Tree) Global)
    → form_view (form.Index e v) ≡ node.index (view e) (part.items v.items)
view-Index e v =
    ap form_view (sym (variant.rolls-Index e v)) ∙ (fold-roll-TreeForm Node of.view_step (TreeForm-F.Index e v) ∙
    ap (node.index (view e)) (items-fused _ (λ e. refl) (λ e. refl) v.items))

pub view-Yield : (v : Vec (Item Tree) Global) (at : ℕ)
    → form_view (form.Yield v at) ≡ node.yield_node at (part.items v.items)
view-Yield v at =
    ap form_view (sym (variant.rolls-Yield v at)) ∙ (fold-roll-TreeForm Node of.view_step (TreeForm-F.Yield v at) ∙
    ap (node.yield_node at) (items-fused _ (λ e. refl) (λ e. refl) v.items))

pub view-Return : (v : Vec (Item Tree) Global) (at : ℕ)
    → form_view (form.Return v at) ≡ node.return_node at (part.items v.items)
view-Return v at =
    ap form_view (sym (variant.rolls-Return v at)) ∙ (fold-roll-TreeForm Node of.view_step (TreeForm-F.Return v at) ∙
    ap (node.return_node at) (items-fused _ (λ e. refl) (λ e. refl) v.items))

pub view-Break : (v : Vec (Item Tree) Global) (at : ℕ)
    → form_view (form.Break v at) ≡ node.break_node at (part.items v.items)
view-Break v at =
    ap form_view (sym (variant.rolls-Break v at)) ∙ (fold-roll-TreeForm Node of.view_step (TreeForm-F.Break v at) ∙
    ap (node.break_node at) (items-fused _ (λ e. refl) (λ e. refl) v.items))

pub view-Next : (v : Vec (Item Tree) Global) (at : ℕ) → form_view (form.Next v at) ≡ node.next_node at (part.items v.items)
view-Next v at =
    ap form_view (sym (variant.rolls-Next v at)) ∙ (fold-roll-TreeForm Node of.view_step (TreeForm-F.Next v at) ∙
    ap (node.next_node at) (items-fused _ (λ e. refl) (λ e. refl) v.items))

pub view-Lambda : (d : Definition Tree) → form_view (form.Lambda d) ≡ node.lambda (part.definition_node d)
view-Lambda d =
    ap form_view (sym (variant.rolls-Lambda d)) ∙ (fold-roll-TreeForm Node of.view_step (TreeForm-F.Lambda d) ∙
    ap node.lambda (same-definition d (parameters-fused _ (λ x. refl) (λ e. refl) d.parameters.required.items)
    (fused of.optional_of part.optional_node _ (λ p. refl) d.parameters.optional.items)
    (parameters-fused _ (λ x. refl) (λ e. refl) d.parameters.post.items)
    (trees-fused _ (λ e. refl) d.parameters.outside.items)))

pub view-Define : (s : Option (Tree)) (x : Bytes) (d : Definition Tree)
    → form_view (form.Define s x d) ≡ node.define (part.boxed s) x (part.definition_node d)
view-Define None x d =
    ap form_view (sym (variant.rolls-Define None x d))
    ∙ (fold-roll-TreeForm Node of.view_step (TreeForm-F.Define None x d) ∙
    ap (node.define (part.boxed None) x) (same-definition d
    (parameters-fused _ (λ x. refl) (λ e. refl) d.parameters.required.items)
    (fused of.optional_of part.optional_node _ (λ p. refl) d.parameters.optional.items)
    (parameters-fused _ (λ x. refl) (λ e. refl) d.parameters.post.items)
    (trees-fused _ (λ e. refl) d.parameters.outside.items)))
view-Define (Some s) x d =
    ap form_view (sym (variant.rolls-Define (Some s) x d))
    ∙ (fold-roll-TreeForm Node of.view_step (TreeForm-F.Define (Some s) x d) ∙
    ap (node.define (part.boxed (Some s)) x) (same-definition d
    (parameters-fused _ (λ x. refl) (λ e. refl) d.parameters.required.items)
    (fused of.optional_of part.optional_node _ (λ p. refl) d.parameters.optional.items)
    (parameters-fused _ (λ x. refl) (λ e. refl) d.parameters.post.items)
    (trees-fused _ (λ e. refl) d.parameters.outside.items)))

pub view-Class : (s : Scope Tree) (x : Bytes) (p : Option (Tree)) (b : PlainBody Tree)
    → form_view (form.Class s x p b) ≡ node.class_node (part.scope_node s) x (part.boxed p) b.locals (view b.body)
view-Class Innermost x None b =
    ap form_view (sym (variant.rolls-Class Innermost x None b))
    ∙ fold-roll-TreeForm Node of.view_step (TreeForm-F.Class Innermost x None b)
view-Class Innermost x (Some p) b =
    ap form_view (sym (variant.rolls-Class Innermost x (Some p) b))
    ∙ fold-roll-TreeForm Node of.view_step (TreeForm-F.Class Innermost x (Some p) b)
view-Class Top x None b =
    ap form_view (sym (variant.rolls-Class Top x None b))
    ∙ fold-roll-TreeForm Node of.view_step (TreeForm-F.Class Top x None b)
view-Class Top x (Some p) b =
    ap form_view (sym (variant.rolls-Class Top x (Some p) b))
    ∙ fold-roll-TreeForm Node of.view_step (TreeForm-F.Class Top x (Some p) b)
view-Class (In s) x None b =
    ap form_view (sym (variant.rolls-Class (In s) x None b))
    ∙ fold-roll-TreeForm Node of.view_step (TreeForm-F.Class (In s) x None b)
view-Class (In s) x (Some p) b =
    ap form_view (sym (variant.rolls-Class (In s) x (Some p) b))
    ∙ fold-roll-TreeForm Node of.view_step (TreeForm-F.Class (In s) x (Some p) b)

pub view-SingletonClass : (e : Tree) (b : PlainBody Tree)
    → form_view (form.SingletonClass e b) ≡ node.singleton_class (view e) b.locals (view b.body)
view-SingletonClass e b =
    ap form_view (sym (variant.rolls-SingletonClass e b))
    ∙ fold-roll-TreeForm Node of.view_step (TreeForm-F.SingletonClass e b)

pub view-Module : (s : Scope Tree) (x : Bytes) (b : PlainBody Tree)
    → form_view (form.Module s x b) ≡ node.module_node (part.scope_node s) x b.locals (view b.body)
view-Module Innermost x b =
    ap form_view (sym (variant.rolls-Module Innermost x b))
    ∙ fold-roll-TreeForm Node of.view_step (TreeForm-F.Module Innermost x b)
view-Module Top x b =
    ap form_view (sym (variant.rolls-Module Top x b)) ∙ fold-roll-TreeForm Node of.view_step (TreeForm-F.Module Top x b)
view-Module (In s) x b =
    ap form_view (sym (variant.rolls-Module (In s) x b))
    ∙ fold-roll-TreeForm Node of.view_step (TreeForm-F.Module (In s) x b)

pub view-Statements : (v : Vec Tree Global) → form_view (form.Statements v) ≡ node.statements (part.trees v.items)
view-Statements v =
    ap form_view (sym (variant.rolls-Statements v)) ∙ (fold-roll-TreeForm Node of.view_step (TreeForm-F.Statements v) ∙
    ap node.statements (trees-fused _ (λ e. refl) v.items))

pub view-For : (v : Vec Tree Global) (e b : Tree)
    → form_view (form.For v e b) ≡ node.for_node (part.trees v.items) (view e) (view b)
view-For v e b =
    ap form_view (sym (variant.rolls-For v e b)) ∙ (fold-roll-TreeForm Node of.view_step (TreeForm-F.For v e b) ∙
    ap (λ ts. node.for_node ts (view e) (view b)) (trees-fused _ (λ e. refl) v.items))

pub view-Outside : (o : Outside) (at : ℕ) (v : Vec Tree Global)
    → form_view (form.Outside o at v) ≡ node.outside o at (part.trees v.items)
view-Outside o at v =
    ap form_view (sym (variant.rolls-Outside o at v))
    ∙ (fold-roll-TreeForm Node of.view_step (TreeForm-F.Outside o at v) ∙
    ap (node.outside o at) (trees-fused _ (λ e. refl) v.items))

targets-with : (t : TargetList Tree) (r : Option (Tree))
    → form_view (form.Targets (record t { rest = r })) ≡ part.targets_node (record t { rest = r })
targets-with t None = ap form_view (sym (variant.rolls-Targets (record t { rest = None })))
    ∙ (fold-roll-TreeForm Node of.view_step (TreeForm-F.Targets (record t { rest = None })) ∙
    ap2 (λ b a. node.targets b t.star (part.boxed None) a) (trees-fused _ (λ e. refl) t.before.items)
    (trees-fused _ (λ e. refl) t.after.items))
targets-with t (Some r) = ap form_view (sym (variant.rolls-Targets (record t { rest = Some r })))
    ∙ (fold-roll-TreeForm Node of.view_step (TreeForm-F.Targets (record t { rest = Some r })) ∙
    ap2 (λ b a. node.targets b t.star (part.boxed (Some r)) a) (trees-fused _ (λ e. refl) t.before.items)
    (trees-fused _ (λ e. refl) t.after.items))

pub view-Targets : (t : TargetList Tree) → form_view (form.Targets t) ≡ part.targets_node t
view-Targets t = targets-with t t.rest

multiple-with : (t : TargetList Tree) (e : Tree) (r : Option (Tree))
    → form_view (form.MultipleAssign (record t { rest = r }) e) ≡ node.multiple_assign
    (part.targets_node (record t { rest = r })) (view e)
multiple-with t e None = ap form_view (sym (variant.rolls-MultipleAssign (record t { rest = None }) e))
    ∙ (fold-roll-TreeForm Node of.view_step (TreeForm-F.MultipleAssign (record t { rest = None }) e) ∙
    ap2 (λ b a. node.multiple_assign (node.targets b t.star (part.boxed None) a) (view e))
    (trees-fused _ (λ e. refl) t.before.items) (trees-fused _ (λ e. refl) t.after.items))
multiple-with t e (Some r) = ap form_view (sym (variant.rolls-MultipleAssign (record t { rest = Some r }) e))
    ∙ (fold-roll-TreeForm Node of.view_step (TreeForm-F.MultipleAssign (record t { rest = Some r }) e) ∙
    ap2 (λ b a. node.multiple_assign (node.targets b t.star (part.boxed (Some r)) a) (view e))
    (trees-fused _ (λ e. refl) t.before.items) (trees-fused _ (λ e. refl) t.after.items))

pub view-MultipleAssign : (t : TargetList Tree) (e : Tree)
    → form_view (form.MultipleAssign t e) ≡ node.multiple_assign (part.targets_node t) (view e)
view-MultipleAssign t e = multiple-with t e t.rest

begin-with : (b : RescueBody Tree) (o e : Option (Tree))
    → form_view (form.Begin (record b { otherwise = o; ensure = e })) ≡ part.begin_node
    (record b { otherwise = o; ensure = e })
begin-with b None None =
    ap form_view (sym (variant.rolls-Begin (record b { otherwise = None; ensure = None })))
    ∙ (fold-roll-TreeForm Node of.view_step (TreeForm-F.Begin (record b { otherwise = None; ensure = None })) ∙
    ap (λ cs. node.begin_node (view b.body) cs (part.boxed None) (part.boxed None))
    (rescues-fused _ (λ c. ap (λ cs. node.rescue_clause cs (part.boxed None) (view c.body))
    (trees-fused _ (λ e. refl) c.classes.items))
    (λ c t. ap (λ cs. node.rescue_clause cs (part.boxed (Some t)) (view c.body))
    (trees-fused _ (λ e. refl) c.classes.items)) b.clauses.items))
begin-with b None (Some e) =
    ap form_view (sym (variant.rolls-Begin (record b { otherwise = None; ensure = Some e })))
    ∙ (fold-roll-TreeForm Node of.view_step (TreeForm-F.Begin (record b { otherwise = None; ensure = Some e })) ∙
    ap (λ cs. node.begin_node (view b.body) cs (part.boxed None) (part.boxed (Some e)))
    (rescues-fused _ (λ c. ap (λ cs. node.rescue_clause cs (part.boxed None) (view c.body))
    (trees-fused _ (λ e. refl) c.classes.items))
    (λ c t. ap (λ cs. node.rescue_clause cs (part.boxed (Some t)) (view c.body))
    (trees-fused _ (λ e. refl) c.classes.items)) b.clauses.items))
begin-with b (Some o) None =
    ap form_view (sym (variant.rolls-Begin (record b { otherwise = Some o; ensure = None })))
    ∙ (fold-roll-TreeForm Node of.view_step (TreeForm-F.Begin (record b { otherwise = Some o; ensure = None })) ∙
    ap (λ cs. node.begin_node (view b.body) cs (part.boxed (Some o)) (part.boxed None))
    (rescues-fused _ (λ c. ap (λ cs. node.rescue_clause cs (part.boxed None) (view c.body))
    (trees-fused _ (λ e. refl) c.classes.items))
    (λ c t. ap (λ cs. node.rescue_clause cs (part.boxed (Some t)) (view c.body))
    (trees-fused _ (λ e. refl) c.classes.items)) b.clauses.items))
begin-with b (Some o) (Some e) =
    ap form_view (sym (variant.rolls-Begin (record b { otherwise = Some o; ensure = Some e })))
    ∙ (fold-roll-TreeForm Node of.view_step (TreeForm-F.Begin (record b { otherwise = Some o; ensure = Some e })) ∙
    ap (λ cs. node.begin_node (view b.body) cs (part.boxed (Some o)) (part.boxed (Some e)))
    (rescues-fused _ (λ c. ap (λ cs. node.rescue_clause cs (part.boxed None) (view c.body))
    (trees-fused _ (λ e. refl) c.classes.items))
    (λ c t. ap (λ cs. node.rescue_clause cs (part.boxed (Some t)) (view c.body))
    (trees-fused _ (λ e. refl) c.classes.items)) b.clauses.items))

pub view-Begin : (b : RescueBody Tree) → form_view (form.Begin b) ≡ part.begin_node b
view-Begin b = begin-with b b.otherwise b.ensure

call-with : (r : Option (Tree)) (x : Bytes) (a : Arguments Tree) (k : Option (Tree)) (b : Option (Definition Tree))
    → form_view (form.Call r x (Some (record a { block = k })) b) ≡ node.call (part.boxed r) x
    (part.arguments (Some (record a { block = k }))) (part.block b)
call-with None x a None None =
    ap form_view (sym (variant.rolls-Call None x (Some (record a { block = None })) None))
    ∙ (fold-roll-TreeForm Node of.view_step (TreeForm-F.Call None x (Some (record a { block = None })) None) ∙
    ap2 (λ is b. node.call (part.boxed None) x (node.one (node.arguments is (part.boxed None))) b)
    (items-fused _ (λ e. refl) (λ e. refl) a.items.items) (refl))
call-with None x a None (Some b) =
    ap form_view (sym (variant.rolls-Call None x (Some (record a { block = None })) (Some b)))
    ∙ (fold-roll-TreeForm Node of.view_step (TreeForm-F.Call None x (Some (record a { block = None })) (Some b)) ∙
    ap2 (λ is b. node.call (part.boxed None) x (node.one (node.arguments is (part.boxed None))) b)
    (items-fused _ (λ e. refl) (λ e. refl) a.items.items)
    (ap node.one (same-definition b (parameters-fused _ (λ x. refl) (λ e. refl) b.parameters.required.items)
    (fused of.optional_of part.optional_node _ (λ p. refl) b.parameters.optional.items)
    (parameters-fused _ (λ x. refl) (λ e. refl) b.parameters.post.items)
    (trees-fused _ (λ e. refl) b.parameters.outside.items))))
call-with None x a (Some k) None =
    ap form_view (sym (variant.rolls-Call None x (Some (record a { block = Some k })) None))
    ∙ (fold-roll-TreeForm Node of.view_step (TreeForm-F.Call None x (Some (record a { block = Some k })) None) ∙
    ap2 (λ is b. node.call (part.boxed None) x (node.one (node.arguments is (part.boxed (Some k)))) b)
    (items-fused _ (λ e. refl) (λ e. refl) a.items.items) (refl))
call-with None x a (Some k) (Some b) =
    ap form_view (sym (variant.rolls-Call None x (Some (record a { block = Some k })) (Some b)))
    ∙ (fold-roll-TreeForm Node of.view_step (TreeForm-F.Call None x (Some (record a { block = Some k })) (Some b)) ∙
    ap2 (λ is b. node.call (part.boxed None) x (node.one (node.arguments is (part.boxed (Some k)))) b)
    (items-fused _ (λ e. refl) (λ e. refl) a.items.items)
    (ap node.one (same-definition b (parameters-fused _ (λ x. refl) (λ e. refl) b.parameters.required.items)
    (fused of.optional_of part.optional_node _ (λ p. refl) b.parameters.optional.items)
    (parameters-fused _ (λ x. refl) (λ e. refl) b.parameters.post.items)
    (trees-fused _ (λ e. refl) b.parameters.outside.items))))
call-with (Some r) x a None None =
    ap form_view (sym (variant.rolls-Call (Some r) x (Some (record a { block = None })) None))
    ∙ (fold-roll-TreeForm Node of.view_step (TreeForm-F.Call (Some r) x (Some (record a { block = None })) None) ∙
    ap2 (λ is b. node.call (part.boxed (Some r)) x (node.one (node.arguments is (part.boxed None))) b)
    (items-fused _ (λ e. refl) (λ e. refl) a.items.items) (refl))
call-with (Some r) x a None (Some b) =
    ap form_view (sym (variant.rolls-Call (Some r) x (Some (record a { block = None })) (Some b)))
    ∙ (fold-roll-TreeForm Node of.view_step (TreeForm-F.Call (Some r) x (Some (record a { block = None })) (Some b))
    ∙
    ap2 (λ is b. node.call (part.boxed (Some r)) x (node.one (node.arguments is (part.boxed None))) b)
    (items-fused _ (λ e. refl) (λ e. refl) a.items.items)
    (ap node.one (same-definition b (parameters-fused _ (λ x. refl) (λ e. refl) b.parameters.required.items)
    (fused of.optional_of part.optional_node _ (λ p. refl) b.parameters.optional.items)
    (parameters-fused _ (λ x. refl) (λ e. refl) b.parameters.post.items)
    (trees-fused _ (λ e. refl) b.parameters.outside.items))))
call-with (Some r) x a (Some k) None =
    ap form_view (sym (variant.rolls-Call (Some r) x (Some (record a { block = Some k })) None))
    ∙ (fold-roll-TreeForm Node of.view_step (TreeForm-F.Call (Some r) x (Some (record a { block = Some k })) None) ∙
    ap2 (λ is b. node.call (part.boxed (Some r)) x (node.one (node.arguments is (part.boxed (Some k)))) b)
    (items-fused _ (λ e. refl) (λ e. refl) a.items.items) (refl))
call-with (Some r) x a (Some k) (Some b) =
    ap form_view (sym (variant.rolls-Call (Some r) x (Some (record a { block = Some k })) (Some b)))
    ∙ (fold-roll-TreeForm Node of.view_step
    (TreeForm-F.Call (Some r) x (Some (record a { block = Some k })) (Some b)) ∙
    ap2 (λ is b. node.call (part.boxed (Some r)) x (node.one (node.arguments is (part.boxed (Some k)))) b)
    (items-fused _ (λ e. refl) (λ e. refl) a.items.items)
    (ap node.one (same-definition b (parameters-fused _ (λ x. refl) (λ e. refl) b.parameters.required.items)
    (fused of.optional_of part.optional_node _ (λ p. refl) b.parameters.optional.items)
    (parameters-fused _ (λ x. refl) (λ e. refl) b.parameters.post.items)
    (trees-fused _ (λ e. refl) b.parameters.outside.items))))

pub view-Call : (r : Option (Tree)) (x : Bytes) (a : Option (Arguments Tree)) (b : Option (Definition Tree))
    → form_view (form.Call r x a b) ≡ node.call (part.boxed r) x (part.arguments a) (part.block b)
view-Call r x (Some a) b = call-with r x a a.block b
view-Call None x None None =
    ap form_view (sym (variant.rolls-Call None x None None))
    ∙ (fold-roll-TreeForm Node of.view_step (TreeForm-F.Call None x None None))
view-Call None x None (Some b) =
    ap form_view (sym (variant.rolls-Call None x None (Some b)))
    ∙ (fold-roll-TreeForm Node of.view_step (TreeForm-F.Call None x None (Some b)) ∙
    ap (λ b. node.call (part.boxed None) x node.none b)
    (ap node.one (same-definition b (parameters-fused _ (λ x. refl) (λ e. refl) b.parameters.required.items)
    (fused of.optional_of part.optional_node _ (λ p. refl) b.parameters.optional.items)
    (parameters-fused _ (λ x. refl) (λ e. refl) b.parameters.post.items)
    (trees-fused _ (λ e. refl) b.parameters.outside.items))))
view-Call (Some r) x None None =
    ap form_view (sym (variant.rolls-Call (Some r) x None None))
    ∙ (fold-roll-TreeForm Node of.view_step (TreeForm-F.Call (Some r) x None None))
view-Call (Some r) x None (Some b) =
    ap form_view (sym (variant.rolls-Call (Some r) x None (Some b)))
    ∙ (fold-roll-TreeForm Node of.view_step (TreeForm-F.Call (Some r) x None (Some b)) ∙
    ap (λ b. node.call (part.boxed (Some r)) x node.none b)
    (ap node.one (same-definition b (parameters-fused _ (λ x. refl) (λ e. refl) b.parameters.required.items)
    (fused of.optional_of part.optional_node _ (λ p. refl) b.parameters.optional.items)
    (parameters-fused _ (λ x. refl) (λ e. refl) b.parameters.post.items)
    (trees-fused _ (λ e. refl) b.parameters.outside.items))))

super-with : (a : Arguments Tree) (k : Option (Tree)) (b : Option (Definition Tree)) (at : ℕ)
    → form_view (form.Super (Some (record a { block = k })) b at) ≡ node.super_node at
    (part.arguments (Some (record a { block = k }))) (part.block b)
super-with a None None at =
    ap form_view (sym (variant.rolls-Super (Some (record a { block = None })) None at))
    ∙ (fold-roll-TreeForm Node of.view_step (TreeForm-F.Super (Some (record a { block = None })) None at) ∙
    ap2 (λ is b. node.super_node at (node.one (node.arguments is (part.boxed None))) b)
    (items-fused _ (λ e. refl) (λ e. refl) a.items.items) (refl))
super-with a None (Some b) at =
    ap form_view (sym (variant.rolls-Super (Some (record a { block = None })) (Some b) at))
    ∙ (fold-roll-TreeForm Node of.view_step (TreeForm-F.Super (Some (record a { block = None })) (Some b) at) ∙
    ap2 (λ is b. node.super_node at (node.one (node.arguments is (part.boxed None))) b)
    (items-fused _ (λ e. refl) (λ e. refl) a.items.items)
    (ap node.one (same-definition b (parameters-fused _ (λ x. refl) (λ e. refl) b.parameters.required.items)
    (fused of.optional_of part.optional_node _ (λ p. refl) b.parameters.optional.items)
    (parameters-fused _ (λ x. refl) (λ e. refl) b.parameters.post.items)
    (trees-fused _ (λ e. refl) b.parameters.outside.items))))
super-with a (Some k) None at =
    ap form_view (sym (variant.rolls-Super (Some (record a { block = Some k })) None at))
    ∙ (fold-roll-TreeForm Node of.view_step (TreeForm-F.Super (Some (record a { block = Some k })) None at) ∙
    ap2 (λ is b. node.super_node at (node.one (node.arguments is (part.boxed (Some k)))) b)
    (items-fused _ (λ e. refl) (λ e. refl) a.items.items) (refl))
super-with a (Some k) (Some b) at =
    ap form_view (sym (variant.rolls-Super (Some (record a { block = Some k })) (Some b) at))
    ∙ (fold-roll-TreeForm Node of.view_step (TreeForm-F.Super (Some (record a { block = Some k })) (Some b) at) ∙
    ap2 (λ is b. node.super_node at (node.one (node.arguments is (part.boxed (Some k)))) b)
    (items-fused _ (λ e. refl) (λ e. refl) a.items.items)
    (ap node.one (same-definition b (parameters-fused _ (λ x. refl) (λ e. refl) b.parameters.required.items)
    (fused of.optional_of part.optional_node _ (λ p. refl) b.parameters.optional.items)
    (parameters-fused _ (λ x. refl) (λ e. refl) b.parameters.post.items)
    (trees-fused _ (λ e. refl) b.parameters.outside.items))))

pub view-Super : (a : Option (Arguments Tree)) (b : Option (Definition Tree)) (at : ℕ)
    → form_view (form.Super a b at) ≡ node.super_node at (part.arguments a) (part.block b)
view-Super (Some a) b at = super-with a a.block b at
view-Super None None at =
    ap form_view (sym (variant.rolls-Super None None at))
    ∙ (fold-roll-TreeForm Node of.view_step (TreeForm-F.Super None None at))
view-Super None (Some b) at =
    ap form_view (sym (variant.rolls-Super None (Some b) at))
    ∙ (fold-roll-TreeForm Node of.view_step (TreeForm-F.Super None (Some b) at) ∙
    ap (λ b. node.super_node at node.none b) (ap node.one
    (same-definition b (parameters-fused _ (λ x. refl) (λ e. refl) b.parameters.required.items)
    (fused of.optional_of part.optional_node _ (λ p. refl) b.parameters.optional.items)
    (parameters-fused _ (λ x. refl) (λ e. refl) b.parameters.post.items)
    (trees-fused _ (λ e. refl) b.parameters.outside.items))))

pub ruleset views = (
  view-Array,
  view-Text,
  view-SymbolText,
  view-Hash,
  view-If,
  view-Unless,
  view-Case,
  view-Index,
  view-Yield,
  view-Return,
  view-Break,
  view-Next,
  view-Lambda,
  view-Define,
  view-Class,
  view-SingletonClass,
  view-Module,
  view-Statements,
  view-For,
  view-Outside,
  view-Targets,
  view-MultipleAssign,
  view-Begin,
  view-Call,
  view-Super,
)
