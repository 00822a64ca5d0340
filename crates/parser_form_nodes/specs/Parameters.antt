-- Parameters and definitions, as nodes.
use Rattle.std.specs.Prelude.{ℕ, Bool, true, false, not, ◌&&◌, nat_eq, length, if◌then◌else◌, List, [], ◌∷◌, ◌++◌, map, Option, Some, None, is_some}
use Rattle.rb_syntax.specs.declared.outside.Outside.TheVariants as outsides
use Rattle.rb_syntax.specs.declared.punctuator.Punctuator.{Punctuator}
use Rattle.rb_syntax.specs.declared.punctuator.Punctuator.TheVariants as marks
use Rattle.parser_tree.specs.declared.tree.Definition.{Definition}
use Rattle.parser_tree.specs.declared.tree.ParameterList.{ParameterList}
use Rattle.parser_tree.specs.declared.tree.RestParameter.{RestParameter}
use Rattle.parser_tree.specs.declared.tree.RestParameter.TheVariants as rests
use Rattle.parser_tree.specs.Node as node
use Rattle.parser_tree.specs.Node.{Name, Node, nodes}
use Rattle.parser_tree.specs.Parts.{parameter_node, optional_node, definition_node}
use Rattle.parser_tree.specs.View.{Tree, view}
use Rattle.parser_tokens.specs.declared.word.Word.{Word}
use Rattle.parser_tokens.specs.declared.word.Word.TheVariants as words
use Rattle.parser_form_nodes.specs.declared.parameters.AnyParameter.{AnyParameter}
use Rattle.parser_form_nodes.specs.declared.parameters.AnyParameter.TheVariants as parameters

-- a parameter of any kind; a required one is its name or its pattern as a node
pub data ParameterNode : Type 0 where
  required : Node → ParameterNode
  optional : Name → Node → ParameterNode
  rest_of : RestParameter → ParameterNode
  block_name : Name → ParameterNode
  outside_parameter : Node → ParameterNode

abbrev pub parameter_view : AnyParameter → ParameterNode
parameter_view (parameters.Required p) = required (parameter_node p)
parameter_view (parameters.Optional x t) = optional x (view t)
parameter_view (parameters.Rest r) = rest_of r
parameter_view (parameters.Block x) = block_name x
parameter_view (parameters.Outside t) = outside_parameter (view t)

-- the parameters that were read, by kinds
pub record ParameterNodes : Type 0 where
  pub required : List Node
  pub optional : List Node
  pub rest : RestParameter
  pub post : List Node
  pub block : Option Name
  pub outside : List Node

abbrev pub parameters_view : ParameterList Tree → ParameterNodes
parameters_view l = record {
  required = map parameter_node l.required.items;
  optional = map optional_node l.optional.items;
  rest = l.rest;
  post = map parameter_node l.post.items;
  block = l.block;
  outside = map view l.outside.items;
}

abbrev pub no_parameters : ParameterNodes
no_parameters = record { required = []; optional = []; rest = rests.Absent; post = []; block = None; outside = [] }

abbrev pub is_there : RestParameter → Bool
is_there rests.Absent = false
is_there rests.Unnamed = true
is_there (rests.Named x) = true

-- neither a rest parameter nor required ones behind it stand there
abbrev pub takes_optional : ParameterNodes → Bool
takes_optional l = not (is_there l.rest) && nat_eq (length l.post) 0

abbrev pub follows : ParameterNode → ParameterNodes → Bool
follows (required n) l = true
follows (optional x n) l = takes_optional l
follows (rest_of r) l = takes_optional l
follows (block_name x) l = true
follows (outside_parameter n) l = true

-- nothing follows the block
abbrev pub may_follow : ParameterNode → ParameterNodes → Bool
may_follow p l = not (is_some l.block) && follows p l

-- required parameters behind an optional or the rest stand behind these
abbrev pub with_required : Node → ParameterNodes → ParameterNodes
with_required n l =
    if nat_eq (length l.optional) 0 && not (is_there l.rest) then (record l { required = l.required ++ n ∷ [] }) else
    (record l { post = l.post ++ n ∷ [] })

abbrev pub put_parameter : ParameterNode → ParameterNodes → ParameterNodes
put_parameter (required n) l = with_required n l
put_parameter (optional x n) l = record l { optional = l.optional ++ node.optional_parameter x n ∷ [] }
put_parameter (rest_of r) l = record l { rest = r }
put_parameter (block_name x) l = record l { block = Some x }
put_parameter (outside_parameter n) l = record l { outside = l.outside ++ n ∷ [] }

-- one required parameter, and none of the others
abbrev pub is_one : ParameterNodes → Bool
is_one l =
    nat_eq (length l.required) 1 && (nat_eq (length l.optional) 0 &&
    (not (is_there l.rest) && (nat_eq (length l.post) 0 && not (is_some l.block))))

-- a comma behind the one parameter of a block stands for a rest parameter without a name
abbrev pub with_comma : ParameterNodes → ParameterNodes
with_comma l = if is_one l then (record l { rest = rests.Unnamed }) else l

abbrev pub mark_begins_parameter : Punctuator → Bool
mark_begins_parameter marks.Star = true
mark_begins_parameter marks.StarStar = true
mark_begins_parameter marks.Ampersand = true
mark_begins_parameter marks.OpenParenthesis = true
mark_begins_parameter _ = false

abbrev pub begins_parameter : Word → Bool
begins_parameter words.Identifier = true
begins_parameter words.Label = true
begins_parameter (words.Other outsides.NonAsciiName) = true
begins_parameter (words.Mark p) = mark_begins_parameter p
begins_parameter _ = false

-- the place of its opening word, its parameters, its other variables, its body
abbrev pub definition_of : ℕ → ParameterNodes → List Name → Node → Node
definition_of at l locals body = node.definition at (nodes l.required) (nodes l.optional) l.rest (nodes l.post) l.block
    (nodes l.outside) locals body

-- a definition, and its body
abbrev pub BlockNode : Type 0
BlockNode = Node × Node

abbrev pub block_view : Definition Tree → BlockNode
block_view d = (definition_node d, view d.body)

abbrev pub block_of : ℕ → ParameterNodes → List Name → Node → BlockNode
block_of at l locals body = (definition_of at l locals body, body)
