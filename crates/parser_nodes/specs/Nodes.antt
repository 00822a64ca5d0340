-- The nodes of operators, conditions and assignments.
use Rattle.std.specs.Prelude.{ℕ, Bool, true, false, List, [], ◌∷◌, map, Option, Vec}
use Rattle.std.specs.declared.alloc.Global.{Global}
use Rattle.rb_syntax.specs.declared.outside.Outside.{Outside}
use Rattle.rb_syntax.specs.declared.outside.Outside.TheVariants as outsides
use Rattle.parser_tree.specs.Node as node
use Rattle.parser_tree.specs.Node.{Node, Nodes, nodes, one}
use Rattle.parser_tree.specs.Parts.{boxed}
use Rattle.parser_tree.specs.View.{Tree, view}
use Rattle.parser_nodes.specs.declared.nodes.Shape.{Shape}
use Rattle.parser_nodes.specs.declared.nodes.Shape.TheVariants as shapes
use Rattle.parser_tokens.specs.declared.word.Modifier.{Modifier}
use Rattle.parser_tokens.specs.declared.word.Modifier.TheVariants as modifiers
use Rattle.parser_tokens.specs.declared.operators.Infix.{Infix}
use Rattle.parser_tokens.specs.declared.operators.Infix.TheVariants as infixes
use Rattle.parser_tokens.specs.declared.operators.Prefix.{Prefix}
use Rattle.parser_tokens.specs.declared.operators.Prefix.TheVariants as prefixes
use Rattle.parser_tokens.specs.declared.operators.Assignment.{Assignment}
use Rattle.parser_tokens.specs.declared.operators.Assignment.TheVariants as assignment
use Rattle.parser_tokens.specs.declared.operators.Junction.{Junction}
use Rattle.parser_tokens.specs.declared.operators.Junction.TheVariants as junction

-- the nodes of trees
abbrev pub views : Vec Tree Global → List Node
views v = map view v.items

-- the node of a tree that may be there
abbrev pub boxed_view : Option (Tree) → Nodes
boxed_view t = boxed t

-- a construct outside the language with two parts
abbrev pub outside_pair : Outside → ℕ → Node → Node → Node
outside_pair o at a b = node.outside o at (nodes (a ∷ b ∷ []))

abbrev pub infix_node : Infix → ℕ → Node → Node → Node
infix_node (infixes.Operation o) at a b = node.operation a o b
infix_node infixes.And at a b = node.and_node a b
infix_node infixes.Or at a b = node.or_node a b
infix_node infixes.Range at a b = node.range a b false at
infix_node infixes.RangeExclusive at a b = node.range a b true at
infix_node infixes.Match at a b = outside_pair outsides.MatchOperator at a b
infix_node infixes.Ambiguous at a b = outside_pair outsides.Ambiguous at a b

abbrev pub prefix_node : Prefix → Node → Node
prefix_node prefixes.Not e = node.not_node e
prefix_node (prefixes.Operation o) e = node.unary o e

abbrev pub junction_node : Junction → Node → Node → Node
junction_node junction.And a b = node.and_node a b
junction_node junction.Or a b = node.or_node a b

abbrev pub outside_shape : Outside → Shape
outside_shape outsides.ClassVariable = shapes.Target
outside_shape outsides.SpecialGlobal = shapes.Target
outside_shape _ = shapes.Other

-- what a node is, as far as the rules ask
unfoldable pub shape : Node → Shape
shape (node.range a b x at) = shapes.Range at
shape (node.begin_node b c o e) = shapes.Begin
shape (node.local x) = shapes.Target
shape (node.instance_variable x) = shapes.Target
shape (node.global_variable x) = shapes.Target
shape (node.constant x) = shapes.Target
shape (node.scoped_constant e x) = shapes.Target
shape (node.index e is) = shapes.Target
shape (node.outside o at es) = outside_shape o
shape _ = shapes.Other

abbrev pub begins : Shape → Bool
begins shapes.Begin = true
begins (shapes.Range at) = false
begins shapes.Target = false
begins shapes.Other = false

abbrev pub is_begin : Node → Bool
is_begin n = begins (shape n)

abbrev pub outside_node : Outside → ℕ → Node → Node
outside_node o at e = node.outside o at (one e)

-- a range that is a whole condition is outside the language
abbrev pub condition_of : Shape → Node → Node
condition_of (shapes.Range at) n = outside_node outsides.FlipFlop at n
condition_of shapes.Begin n = n
condition_of shapes.Target n = n
condition_of shapes.Other n = n

abbrev pub condition_node : Node → Node
condition_node n = condition_of (shape n) n

abbrev pub branch_node : Node → Node → Nodes → Node
branch_node test body other = node.if_node (one (node.branch test body)) other

abbrev pub choice_node : Node → Node → Node → Node
choice_node test a b = branch_node (condition_node test) a (one b)

abbrev pub rescued_node : Node → Node → Node
rescued_node e other = node.rescue_modifier e other

abbrev pub unless_node : Node → Node → Node
unless_node test body = node.unless_node (condition_node test) body node.none

-- a loop does the body of begin .. end before its first test
abbrev pub loop_node : Bool → Node → Node → Node
loop_node until test body = node.while_node until (is_begin body) (condition_node test) body

abbrev pub modified_node : Modifier → Node → Node → Node
modified_node modifiers.If body part = branch_node (condition_node part) body node.none
modified_node modifiers.Unless body part = unless_node part body
modified_node modifiers.While body part = loop_node false part body
modified_node modifiers.Until body part = loop_node true part body
modified_node modifiers.Rescue body part = rescued_node body part

abbrev pub assignment_node : Assignment → Node → Node → Node
assignment_node assignment.Plain t e = node.assign t e
assignment_node (assignment.Operation o) t e = node.operator_assign t o e

abbrev pub defined_node : Node → Node
defined_node e = node.defined e
