-- The node that a tree stands for.
use Rattle.std.specs.Prelude.{List, Option, Some, None, map, Box}
use Rattle.std.specs.declared.alloc.Global.{Global}
use Rattle.rb_syntax.specs.declared.core_form.Item.{Item}
use Rattle.rb_syntax.specs.declared.core_form.Item.TheVariants.{Plain, Splat}
use Rattle.rb_syntax.specs.declared.core_form.Pair.{Pair}
use Rattle.rb_syntax.specs.declared.core_form.Branch.{Branch}
use Rattle.parser_tree.specs.declared.tree.TreeForm.{TreeForm, fold-TreeForm}
use Rattle.parser_tree.specs.declared.tree.TreeForm.TheOpen.{TreeForm-F}
use Rattle.parser_tree.specs.declared.tree.Piece.{Piece}
use Rattle.parser_tree.specs.declared.tree.Piece.TheVariants.{Text, Interpolation}
use Rattle.parser_tree.specs.declared.tree.Arguments.{Arguments}
use Rattle.parser_tree.specs.declared.tree.Parameter.{Parameter}
use Rattle.parser_tree.specs.declared.tree.Parameter.TheVariants as parameter
use Rattle.parser_tree.specs.declared.tree.OptionalParameter.{OptionalParameter}
use Rattle.parser_tree.specs.declared.tree.Definition.{Definition}
use Rattle.parser_tree.specs.declared.tree.RescueClause.{RescueClause}
use Rattle.parser_tree.specs.declared.tree.RescueBody.{RescueBody}
use Rattle.parser_tree.specs.declared.tree.WhenClause.{WhenClause}
use Rattle.parser_tree.specs.declared.tree.TargetList.{TargetList}
use Rattle.parser_tree.specs.declared.tree.Scope.{Scope}
use Rattle.parser_tree.specs.declared.tree.Scope.TheVariants.{Innermost, Top, In}
use Rattle.parser_tree.specs.Node as node
use Rattle.parser_tree.specs.Node.{Node, Nodes, nodes}

-- the node of a part, as a step over the parts of a tree holds it
abbrev pub Held : Type 0
Held = Box Node Global

abbrev pub held : Held → Node
held b = b.value

abbrev pub item_of : Item Node → Node
item_of (Plain n) = n
item_of (Splat n) = node.splat n

abbrev pub items_of : List (Item Node) → Nodes
items_of is = nodes (map item_of is)

abbrev pub pair_of : Pair Node → Node
pair_of p = node.pair p.key p.value

abbrev pub held_item : Item Held → Node
held_item (Plain b) = b.value
held_item (Splat b) = node.splat b.value

abbrev pub held_items : List (Item Held) → Nodes
held_items is = nodes (map held_item is)

abbrev pub all_held : List Held → Nodes
all_held bs = nodes (map held bs)

abbrev pub held_pair : Pair Held → Node
held_pair p = node.pair p.key.value p.value.value

abbrev pub branch_of : Branch Held → Node
branch_of b = node.branch b.test.value b.body.value

abbrev pub piece_of : Piece Held → Node
piece_of (Text bytes) = node.piece bytes
piece_of (Interpolation b) = b.value

-- a part that may be there
abbrev pub maybe : Option Held → Nodes
maybe None = node.none
maybe (Some b) = node.one b.value

abbrev pub arguments_of : Option (Arguments Held) → Nodes
arguments_of None = node.none
arguments_of (Some a) = node.one (node.arguments (held_items a.items.items) (maybe a.block))

abbrev pub parameter_of : Parameter Held → Node
parameter_of (parameter.Name x) = node.name_parameter x
parameter_of (parameter.Pattern b) = b.value

abbrev pub optional_of : OptionalParameter Held → Node
optional_of p = node.optional_parameter p.name p.value.value

abbrev pub definition_of : Definition Held → Node
definition_of d =
    node.definition d.at (nodes (map parameter_of d.parameters.required.items))
    (nodes (map optional_of d.parameters.optional.items)) d.parameters.rest
    (nodes (map parameter_of d.parameters.post.items)) d.parameters.block (all_held d.parameters.outside.items) d.locals
    d.body.value

abbrev pub block_of : Option (Definition Held) → Nodes
block_of None = node.none
block_of (Some d) = node.one (definition_of d)

abbrev pub rescue_of : RescueClause Held → Node
rescue_of c = node.rescue_clause (all_held c.classes.items) (maybe c.target) c.body.value

abbrev pub begin_of : RescueBody Held → Node
begin_of b = node.begin_node b.body.value (nodes (map rescue_of b.clauses.items)) (maybe b.otherwise) (maybe b.ensure)

abbrev pub when_of : WhenClause Held → Node
when_of c = node.when_clause (all_held c.tests.items) c.body.value

abbrev pub targets_of : TargetList Held → Node
targets_of t = node.targets (all_held t.before.items) t.star (maybe t.rest) (all_held t.after.items)

abbrev pub scope_of : Scope Held → Node
scope_of Innermost = node.innermost
scope_of Top = node.top
scope_of (In b) = b.value

abbrev pub view_step : TreeForm-F Node → Node
view_step TreeForm-F.Nil = node.nil
view_step TreeForm-F.True = node.truth
view_step TreeForm-F.False = node.falsehood
view_step TreeForm-F.SelfReference = node.self_reference
view_step (TreeForm-F.Integer n) = node.integer n
view_step (TreeForm-F.Text ps) = node.text (nodes (map piece_of ps.items))
view_step (TreeForm-F.Symbol x) = node.symbol x
view_step (TreeForm-F.SymbolText ps) = node.symbol_text (nodes (map piece_of ps.items))
view_step (TreeForm-F.Words xs) = node.words xs
view_step (TreeForm-F.Symbols xs) = node.symbols xs
view_step (TreeForm-F.Local x) = node.local x
view_step (TreeForm-F.InstanceVariable x) = node.instance_variable x
view_step (TreeForm-F.GlobalVariable x) = node.global_variable x
view_step (TreeForm-F.Constant x) = node.constant x
view_step (TreeForm-F.TopConstant x) = node.top_constant x
view_step (TreeForm-F.ScopedConstant e x) = node.scoped_constant e.value x
view_step (TreeForm-F.Array is) = node.array (held_items is.items)
view_step (TreeForm-F.Hash ps) = node.hash (nodes (map held_pair ps.items))
view_step (TreeForm-F.Statements es) = node.statements (all_held es.items)
view_step (TreeForm-F.Not e) = node.not_node e.value
view_step (TreeForm-F.Unary o e) = node.unary o e.value
view_step (TreeForm-F.Operation a o b) = node.operation a.value o b.value
view_step (TreeForm-F.And a b) = node.and_node a.value b.value
view_step (TreeForm-F.Or a b) = node.or_node a.value b.value
view_step (TreeForm-F.Range a b x at) = node.range a.value b.value x at
view_step (TreeForm-F.If bs o) = node.if_node (nodes (map branch_of bs.items)) (maybe o)
view_step (TreeForm-F.Unless t b o) = node.unless_node t.value b.value (maybe o)
view_step (TreeForm-F.While until first t b) = node.while_node until first t.value b.value
view_step (TreeForm-F.For ts e b) = node.for_node (all_held ts.items) e.value b.value
view_step (TreeForm-F.Case s cs o) = node.case_node (maybe s) (nodes (map when_of cs.items)) (maybe o)
view_step (TreeForm-F.Begin b) = begin_of b
view_step (TreeForm-F.RescueModifier a b) = node.rescue_modifier a.value b.value
view_step (TreeForm-F.Call r x a b) = node.call (maybe r) x (arguments_of a) (block_of b)
view_step (TreeForm-F.Index e is) = node.index e.value (held_items is.items)
view_step (TreeForm-F.Super a b at) = node.super_node at (arguments_of a) (block_of b)
view_step (TreeForm-F.Yield is at) = node.yield_node at (held_items is.items)
view_step (TreeForm-F.Defined e) = node.defined e.value
view_step (TreeForm-F.Lambda d) = node.lambda (definition_of d)
view_step (TreeForm-F.Return is at) = node.return_node at (held_items is.items)
view_step (TreeForm-F.Break is at) = node.break_node at (held_items is.items)
view_step (TreeForm-F.Next is at) = node.next_node at (held_items is.items)
view_step (TreeForm-F.Retry at) = node.retry at
view_step (TreeForm-F.Assign t e) = node.assign t.value e.value
view_step (TreeForm-F.OperatorAssign t o e) = node.operator_assign t.value o e.value
view_step (TreeForm-F.MultipleAssign ts e) = node.multiple_assign (targets_of ts) e.value
view_step (TreeForm-F.Targets ts) = targets_of ts
view_step (TreeForm-F.Define s x d) = node.define (maybe s) x (definition_of d)
view_step (TreeForm-F.Class s x p b) = node.class_node (scope_of s) x (maybe p) b.locals b.body.value
view_step (TreeForm-F.SingletonClass e b) = node.singleton_class e.value b.locals b.body.value
view_step (TreeForm-F.Module s x b) = node.module_node (scope_of s) x b.locals b.body.value
view_step (TreeForm-F.Alias x y) = node.alias_node x y
view_step (TreeForm-F.Undef xs) = node.undef_node xs
view_step (TreeForm-F.Outside o at es) = node.outside o at (all_held es.items)

abbrev pub form_view : TreeForm → Node
form_view = fold-TreeForm Node view_step

abbrev pub Tree : Type 0
Tree = Box TreeForm Global

abbrev pub view : Tree → Node
view t = form_view t.value
