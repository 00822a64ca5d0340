-- The node of a tree whose parts lie in lists and options, by the nodes of the trees in them.
use Rattle.std.proofs.Common.{◌≡◌, Option, ℕ, Vec}
use Rattle.std.specs.declared.alloc.Global.{Global}
use Rattle.rb_syntax.specs.declared.core_form.Item.{Item}
use Rattle.rb_syntax.specs.declared.core_form.Pair.{Pair}
use Rattle.rb_syntax.specs.declared.core_form.Branch.{Branch}
use Rattle.rb_syntax.specs.declared.outside.Outside.{Outside}
use Rattle.rb_base.specs.declared.list.Bytes.{Bytes}
use Rattle.parser_tree.specs.declared.tree.TreeForm as form
use Rattle.parser_tree.specs.declared.tree.Piece.{Piece}
use Rattle.parser_tree.specs.declared.tree.Arguments.{Arguments}
use Rattle.parser_tree.specs.declared.tree.Definition.{Definition}
use Rattle.parser_tree.specs.declared.tree.PlainBody.{PlainBody}
use Rattle.parser_tree.specs.declared.tree.RescueBody.{RescueBody}
use Rattle.parser_tree.specs.declared.tree.WhenClause.{WhenClause}
use Rattle.parser_tree.specs.declared.tree.TargetList.{TargetList}
use Rattle.parser_tree.specs.declared.tree.Scope.{Scope}
use Rattle.parser_tree.specs.Node as node
use Rattle.parser_tree.specs.View.{Tree, form_view}
use Rattle.parser_tree.proofs.Views as of
use Rattle.parser_tree.specs.PartsBy as by

pub view-Array : (v : Vec (Item Tree) Global) → form_view (form.Array v) ≡ node.array (by.items_by form_view v.items)
view-Array v = of.view-Array v

pub view-Text : (v : Vec (Piece Tree) Global) → form_view (form.Text v) ≡ node.text (by.pieces_by form_view v.items)
view-Text v = of.view-Text v

pub view-SymbolText : (v : Vec (Piece Tree) Global)
    → form_view (form.SymbolText v) ≡ node.symbol_text (by.pieces_by form_view v.items)
view-SymbolText v = of.view-SymbolText v

pub view-Hash : (v : Vec (Pair Tree) Global) → form_view (form.Hash v) ≡ node.hash (by.pairs_by form_view v.items)
view-Hash v = of.view-Hash v

pub view-If : (v : Vec (Branch Tree) Global) (o : Option (Tree))
    → form_view (form.If v o) ≡ node.if_node (by.branches_by form_view v.items) (by.boxed_by form_view o)
view-If v o = of.view-If v o

pub view-Unless : (t b : Tree) (o : Option (Tree))
    → form_view (form.Unless t b o) ≡ node.unless_node (by.tree_by form_view t) (by.tree_by form_view b)
    (by.boxed_by form_view o)
view-Unless t b o = of.view-Unless t b o

pub view-Case : (s : Option (Tree)) (v : Vec (WhenClause Tree) Global) (o : Option (Tree))
    → form_view (form.Case s v o) ≡ node.case_node (by.boxed_by form_view s) (by.whens_by form_view v.items)
    (by.boxed_by form_view o)
view-Case s v o = of.view-Case s v o

pub view-Index : (e : Tree) (v : Vec (Item Tree) Global)
    → form_view (form.Index e v) ≡ node.index (by.tree_by form_view e) (by.items_by form_view v.items)
view-Index e v = of.view-Index e v

pub view-Yield : (v : Vec (Item Tree) Global) (at : ℕ)
    → form_view (form.Yield v at) ≡ node.yield_node at (by.items_by form_view v.items)
view-Yield v at = of.view-Yield v at

pub view-Return : (v : Vec (Item Tree) Global) (at : ℕ)
    → form_view (form.Return v at) ≡ node.return_node at (by.items_by form_view v.items)
view-Return v at = of.view-Return v at

pub view-Break : (v : Vec (Item Tree) Global) (at : ℕ)
    → form_view (form.Break v at) ≡ node.break_node at (by.items_by form_view v.items)
view-Break v at = of.view-Break v at

pub view-Next : (v : Vec (Item Tree) Global) (at : ℕ)
    → form_view (form.Next v at) ≡ node.next_node at (by.items_by form_view v.items)
view-Next v at = of.view-Next v at

pub view-Lambda : (d : Definition Tree) → form_view (form.Lambda d) ≡ node.lambda (by.definition_by form_view d)
view-Lambda d = of.view-Lambda d

pub view-Define : (s : Option (Tree)) (x : Bytes) (d : Definition Tree)
    → form_view (form.Define s x d) ≡ node.define (by.boxed_by form_view s) x (by.definition_by form_view d)
view-Define s x d = of.view-Define s x d

pub view-Class : (s : Scope Tree) (x : Bytes) (p : Option (Tree)) (b : PlainBody Tree)
    → form_view (form.Class s x p b) ≡ node.class_node (by.scope_by form_view s) x (by.boxed_by form_view p)
    b.locals (by.tree_by form_view b.body)
view-Class s x p b = of.view-Class s x p b

pub view-SingletonClass : (e : Tree) (b : PlainBody Tree)
    → form_view (form.SingletonClass e b) ≡ node.singleton_class (by.tree_by form_view e) b.locals
    (by.tree_by form_view b.body)
view-SingletonClass e b = of.view-SingletonClass e b

pub view-Module : (s : Scope Tree) (x : Bytes) (b : PlainBody Tree)
    → form_view (form.Module s x b) ≡ node.module_node (by.scope_by form_view s) x b.locals (by.tree_by form_view b.body)
view-Module s x b = of.view-Module s x b

pub view-Statements : (v : Vec Tree Global) → form_view (form.Statements v) ≡ node.statements
    (by.trees_by form_view v.items)
view-Statements v = of.view-Statements v

pub view-For : (v : Vec Tree Global) (e b : Tree)
    → form_view (form.For v e b) ≡ node.for_node (by.trees_by form_view v.items) (by.tree_by form_view e)
    (by.tree_by form_view b)
view-For v e b = of.view-For v e b

pub view-Outside : (o : Outside) (at : ℕ) (v : Vec Tree Global)
    → form_view (form.Outside o at v) ≡ node.outside o at (by.trees_by form_view v.items)
view-Outside o at v = of.view-Outside o at v

pub view-Targets : (t : TargetList Tree) → form_view (form.Targets t) ≡ by.targets_by form_view t
view-Targets t = of.view-Targets t

pub view-MultipleAssign : (t : TargetList Tree) (e : Tree)
    → form_view (form.MultipleAssign t e) ≡ node.multiple_assign (by.targets_by form_view t) (by.tree_by form_view e)
view-MultipleAssign t e = of.view-MultipleAssign t e

pub view-Begin : (b : RescueBody Tree) → form_view (form.Begin b) ≡ by.begin_by form_view b
view-Begin b = of.view-Begin b

pub view-Call : (r : Option (Tree)) (x : Bytes) (a : Option (Arguments Tree)) (b : Option (Definition Tree))
    → form_view (form.Call r x a b) ≡ node.call (by.boxed_by form_view r) x (by.arguments_by form_view a)
    (by.block_by form_view b)
view-Call r x a b = of.view-Call r x a b

pub view-Super : (a : Option (Arguments Tree)) (b : Option (Definition Tree)) (at : ℕ)
    → form_view (form.Super a b at) ≡ node.super_node at (by.arguments_by form_view a) (by.block_by form_view b)
view-Super a b at = of.view-Super a b at

pub ruleset views = (
  view-Array,
  view-Text,
  view-SymbolText,
  view-Hash,
  view-If,
  view-Unless,
  view-Case,
  view-Index,
  view-Yield,
  view-Return,
  view-Break,
  view-Next,
  view-Lambda,
  view-Define,
  view-Class,
  view-SingletonClass,
  view-Module,
  view-Statements,
  view-For,
  view-Outside,
  view-Targets,
  view-MultipleAssign,
  view-Begin,
  view-Call,
  view-Super,
)
