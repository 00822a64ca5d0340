-- What is called, and the nodes of calls and of targets.
use Rattle.std.specs.Prelude.{ℕ, Bool, true, false, not, List, [], ◌∷◌, ◌++◌, map, Option, Some, None}
use Rattle.rb_syntax.specs.declared.core_form.Item.{Item}
use Rattle.rb_syntax.specs.declared.core_form.Item.TheVariants.{Plain, Splat}
use Rattle.rb_syntax.specs.declared.outside.Outside.{Outside}
use Rattle.parser_tree.specs.declared.tree.Arguments.{Arguments}
use Rattle.parser_tree.specs.declared.tree.Definition.{Definition}
use Rattle.parser_tree.specs.Node as node
use Rattle.parser_tree.specs.Node.{Name, Node, Nodes, nodes, one}
use Rattle.parser_tree.specs.Parts.{definition_node}
use Rattle.parser_tree.specs.View.{Tree, view, items_of}
use Rattle.parser_ahead.specs.Names.{learned}
use Rattle.parser_ahead.specs.declared.names.Variable.{Variable}
use Rattle.parser_nodes.specs.Nodes.{views, shape}
use Rattle.parser_nodes.specs.Listed.{arguments_view}
use Rattle.parser_nodes.specs.declared.nodes.Shape.{Shape}
use Rattle.parser_nodes.specs.declared.nodes.Shape.TheVariants as shapes
use Rattle.parser_nodes.specs.declared.operand.Callee.{Callee}
use Rattle.parser_nodes.specs.declared.operand.Callee.TheVariants as callees
use Rattle.parser_nodes.specs.declared.operand.Operand.{Operand}
use Rattle.parser_nodes.specs.declared.operand.Operand.TheVariants as operands

-- what is called, without arguments and a block
pub data CalleeNode : Type 0 where
  -- a name alone, and whether it is an identifier
  name_callee : Name → Bool → CalleeNode
  -- a receiver, a name, and whether :: stands between them
  method_callee : Node → Name → Bool → CalleeNode
  -- the place of the word
  super_callee : ℕ → CalleeNode
  outside_callee : Outside → ℕ → List Node → CalleeNode

-- a primary with its postfixes
pub data OperandNode : Type 0 where
  whole : Node → OperandNode
  callee : CalleeNode → OperandNode

abbrev pub callee_view : Callee → CalleeNode
callee_view (callees.Name x i) = name_callee x i
callee_view (callees.Method r x s) = method_callee (view r) x s
callee_view (callees.Super at) = super_callee at
callee_view (callees.Outside o at es) = outside_callee o at (views es)

abbrev pub operand_view : Operand → OperandNode
operand_view (operands.Whole t) = whole (view t)
operand_view (operands.Callee c) = callee (callee_view c)

-- the items and what follows &, or no arguments
abbrev pub Given : Type 0
Given = Option (List (Item Node) × Nodes)

abbrev pub given_view : Option (Arguments Tree) → Given
given_view None = None
given_view (Some a) = Some (arguments_view a)

-- a block: its definition, and its body
abbrev pub Block : Type 0
Block = Node × Node

abbrev pub block_view : Definition Tree → Block
block_view d = (definition_node d, view d.body)

abbrev pub given_block : Option (Definition Tree) → Option Block
given_block None = None
given_block (Some d) = Some (block_view d)

abbrev pub given_node : Given → Nodes
given_node None = node.none
given_node (Some g) = one (node.arguments (items_of g.0) g.1)

abbrev pub block_node : Option Block → Nodes
block_node None = node.none
block_node (Some b) = one b.0

abbrev pub list_of : Nodes → List Node
list_of node.none = []
list_of (node.more n ns) = n ∷ list_of ns

abbrev pub item_part : Item Node → Node
item_part (Plain n) = n
item_part (Splat n) = n

-- the parts of arguments and of a block, without what they are
abbrev pub given_parts : Given → List Node
given_parts None = []
given_parts (Some g) = map item_part g.0 ++ list_of g.1

abbrev pub block_parts : Option Block → List Node
block_parts None = []
block_parts (Some b) = b.1 ∷ []

abbrev pub outside_call : Outside → ℕ → List Node → Given → Option Block → Node
outside_call o at es given block = node.outside o at (nodes ((es ++ given_parts given) ++ block_parts block))

abbrev pub call_node : CalleeNode → Given → Option Block → Node
call_node (name_callee x i) given block = node.call node.none x (given_node given) (block_node block)
call_node (method_callee r x s) given block = node.call (one r) x (given_node given) (block_node block)
call_node (super_callee at) given block = node.super_node at (given_node given) (block_node block)
call_node (outside_callee o at es) given block = outside_call o at es given block

-- a name alone is called without arguments
abbrev pub operand_node : OperandNode → Node
operand_node (whole n) = n
operand_node (callee c) = call_node c None None

abbrev is_target_shape : Shape → Bool
is_target_shape shapes.Target = true
is_target_shape (shapes.Range at) = false
is_target_shape shapes.Begin = false
is_target_shape shapes.Other = false

abbrev pub is_target_callee : CalleeNode → Bool
is_target_callee (name_callee x i) = i
is_target_callee (method_callee r x s) = not s
is_target_callee (super_callee at) = false
is_target_callee (outside_callee o at es) = true

-- what may stand before the = of an assignment
abbrev pub is_target : OperandNode → Bool
is_target (whole n) = is_target_shape (shape n)
is_target (callee c) = is_target_callee c

abbrev pub target_callee : CalleeNode → Node
target_callee (name_callee x i) = node.local x
target_callee (method_callee r x s) = node.call (one r) x node.none node.none
target_callee (super_callee at) = node.super_node at node.none node.none
target_callee (outside_callee o at es) = node.outside o at (nodes es)

-- a name alone is a local from here on
abbrev pub target_node : OperandNode → Node
target_node (whole n) = n
target_node (callee c) = target_callee c

abbrev pub learned_callee : CalleeNode → List Variable → List Variable
learned_callee (name_callee x i) names = learned names x
learned_callee (method_callee r x s) names = names
learned_callee (super_callee at) names = names
learned_callee (outside_callee o at es) names = names

-- the names that are known behind a target
abbrev pub target_names : OperandNode → List Variable → List Variable
target_names (whole n) names = names
target_names (callee c) names = learned_callee c names
