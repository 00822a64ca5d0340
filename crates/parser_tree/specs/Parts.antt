-- The nodes that the parts of a tree stand for.
use Rattle.std.specs.Prelude.{Bool, true, false, List, Option, Some, None, map}
use Rattle.rb_syntax.specs.declared.core_form.Item.{Item}
use Rattle.rb_syntax.specs.declared.core_form.Item.TheVariants.{Plain, Splat}
use Rattle.rb_syntax.specs.declared.core_form.Pair.{Pair}
use Rattle.rb_syntax.specs.declared.core_form.Branch.{Branch}
use Rattle.parser_tree.specs.declared.tree.Piece.{Piece}
use Rattle.parser_tree.specs.declared.tree.Piece.TheVariants.{Text, Interpolation}
use Rattle.parser_tree.specs.declared.tree.Arguments.{Arguments}
use Rattle.parser_tree.specs.declared.tree.Parameter.{Parameter}
use Rattle.parser_tree.specs.declared.tree.Parameter.TheVariants as parameter
use Rattle.parser_tree.specs.declared.tree.OptionalParameter.{OptionalParameter}
use Rattle.parser_tree.specs.declared.tree.Definition.{Definition}
use Rattle.parser_tree.specs.declared.tree.PlainBody.{PlainBody}
use Rattle.parser_tree.specs.declared.tree.RescueClause.{RescueClause}
use Rattle.parser_tree.specs.declared.tree.RescueBody.{RescueBody}
use Rattle.parser_tree.specs.declared.tree.WhenClause.{WhenClause}
use Rattle.parser_tree.specs.declared.tree.TargetList.{TargetList}
use Rattle.parser_tree.specs.declared.tree.Scope.{Scope}
use Rattle.parser_tree.specs.declared.tree.Scope.TheVariants.{Innermost, Top, In}
use Rattle.parser_tree.specs.Node as node
use Rattle.parser_tree.specs.Node.{Name, Node, Nodes, nodes}
use Rattle.parser_tree.specs.View.{Tree, view}

abbrev pub trees : List Tree → Nodes
trees ts = nodes (map view ts)

abbrev pub item_node : Item Tree → Node
item_node (Plain e) = view e
item_node (Splat e) = node.splat (view e)

abbrev pub items : List (Item Tree) → Nodes
items is = nodes (map item_node is)

abbrev pub pair_node : Pair Tree → Node
pair_node p = node.pair (view p.key) (view p.value)

abbrev pub branch_node : Branch Tree → Node
branch_node b = node.branch (view b.test) (view b.body)

abbrev pub piece_node : Piece Tree → Node
piece_node (Text bytes) = node.piece bytes
piece_node (Interpolation e) = view e

abbrev pub boxed : Option Tree → Nodes
boxed None = node.none
boxed (Some t) = node.one (view t)

abbrev pub arguments_node : Arguments Tree → Node
arguments_node a = node.arguments (items a.items.items) (boxed a.block)

abbrev pub arguments : Option (Arguments Tree) → Nodes
arguments None = node.none
arguments (Some a) = node.one (arguments_node a)

abbrev pub parameter_node : Parameter Tree → Node
parameter_node (parameter.Name x) = node.name_parameter x
parameter_node (parameter.Pattern e) = view e

abbrev pub optional_node : OptionalParameter Tree → Node
optional_node p = node.optional_parameter p.name (view p.value)

abbrev pub definition_node : Definition Tree → Node
definition_node d =
    node.definition d.at (nodes (map parameter_node d.parameters.required.items))
    (nodes (map optional_node d.parameters.optional.items)) d.parameters.rest
    (nodes (map parameter_node d.parameters.post.items)) d.parameters.block (trees d.parameters.outside.items) d.locals
    (view d.body)

abbrev pub block : Option (Definition Tree) → Nodes
block None = node.none
block (Some d) = node.one (definition_node d)

abbrev pub rescue_node : RescueClause Tree → Node
rescue_node c = node.rescue_clause (trees c.classes.items) (boxed c.target) (view c.body)

abbrev pub begin_node : RescueBody Tree → Node
begin_node b = node.begin_node (view b.body) (nodes (map rescue_node b.clauses.items)) (boxed b.otherwise)
    (boxed b.ensure)

abbrev pub when_node : WhenClause Tree → Node
when_node c = node.when_clause (trees c.tests.items) (view c.body)

abbrev pub targets_node : TargetList Tree → Node
targets_node t = node.targets (trees t.before.items) t.star (boxed t.rest) (trees t.after.items)

abbrev pub scope_node : Scope Tree → Node
scope_node Innermost = node.innermost
scope_node Top = node.top
scope_node (In t) = view t

-- a body without parameters: its variables, and what stands in it
abbrev pub PlainNode : Type 0
PlainNode = List Name × Node

abbrev pub plain_view : PlainBody Tree → PlainNode
plain_view b = (b.locals, view b.body)

-- targets in parentheses
unfoldable pub is_group : Node → Bool
is_group (node.targets b s r a) = true
is_group _ = false

-- where a class or module stands, and its name, of a path of constants
unfoldable pub class_path : Node → Option (Node × Name)
class_path (node.constant x) = Some (node.innermost, x)
class_path (node.top_constant x) = Some (node.top, x)
class_path (node.scoped_constant e x) = Some (e, x)
class_path _ = None

abbrev pub path_node : Scope Tree × Name → Node × Name
path_node p = (scope_node p.0, p.1)
