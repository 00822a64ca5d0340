-- The tokens of !a&.b = f 1 do end.c, and its node.
use Rattle.std.specs.Prelude.{pos, true, false, [], ◌∷◌, Some, None, codes}
use Rattle.rb_syntax.specs.declared.keyword.Keyword.TheVariants as keywords
use Rattle.rb_syntax.specs.declared.outside.Outside.TheVariants as outsides
use Rattle.rb_syntax.specs.declared.punctuator.Punctuator.TheVariants as marks
use Rattle.rb_syntax.specs.declared.token.TokenKind.TheVariants as kinds
use Rattle.parser_tree.specs.Node as node
use Rattle.parser_tree.specs.Node.{Node, nodes}
use Rattle.parser_nodes.specs.Listed.{ListNode, plain_part, nothing_listed, put, arguments_node}
use Rattle.parser_nodes.specs.Calls.{CalleeNode, name_callee, method_callee, call_node}
use Rattle.parser_form_nodes.specs.Parameters.{BlockNode, no_parameters, block_of}
use Rattle.parser_laws.specs.Derives.{Tokens}

-- the tokens from each of them on, the last first
abbrev pub last_name : Tokens
last_name = record { kind = kinds.Identifier (codes "c"); at = 19; space = false; line_start = false; value = true } ∷
    []

abbrev pub dot : Tokens
dot = record { kind = kinds.Punctuator marks.Dot; at = 18; space = false; line_start = false; value = false } ∷
    last_name

abbrev pub block_end : Tokens
block_end = record { kind = kinds.Keyword keywords.End; at = 15; space = true; line_start = false; value = false } ∷ dot

abbrev pub block_begin : Tokens
block_begin = record { kind = kinds.Keyword keywords.Do; at = 12; space = true; line_start = false; value = false } ∷
    block_end

abbrev pub digit : Tokens
digit = record { kind = kinds.Integer 1; at = 10; space = true; line_start = false; value = true } ∷ block_begin

abbrev pub called_name : Tokens
called_name = record { kind = kinds.Identifier (codes "f"); at = 8; space = true; line_start = false; value = true } ∷
    digit

abbrev pub equals : Tokens
equals = record { kind = kinds.Punctuator marks.Assign; at = 6; space = true; line_start = false; value = false } ∷
    called_name

abbrev pub method_name : Tokens
method_name = record { kind = kinds.Identifier (codes "b"); at = 4; space = false; line_start = false; value = true } ∷
    equals

abbrev pub safe : Tokens
safe = record { kind = kinds.Punctuator marks.AmpersandDot; at = 2; space = false; line_start = false; value = false } ∷
    method_name

abbrev pub first_name : Tokens
first_name = record { kind = kinds.Identifier (codes "a"); at = 1; space = false; line_start = false; value = true } ∷
    safe

abbrev pub tokens : Tokens
tokens = record { kind = kinds.Punctuator marks.Not; at = 0; space = false; line_start = true; value = true } ∷
    first_name

abbrev pub receiver : Node
receiver = call_node (name_callee (codes "a") true) None None

abbrev pub target : Node
target = node.outside outsides.SafeNavigation 2 (nodes (receiver ∷ []))

abbrev pub called : CalleeNode
called = name_callee (codes "f") true

abbrev pub list : ListNode
list = put (plain_part (node.integer (pos 1))) nothing_listed

abbrev pub body : Node
body = node.statements (nodes [])

abbrev pub block : BlockNode
block = block_of 12 no_parameters [] body

abbrev pub command : Node
command = call_node called (Some (arguments_node list)) (Some block)

abbrev pub method : CalleeNode
method = method_callee command (codes "c") false

abbrev pub value : Node
value = call_node method None None

abbrev pub negation : Node
negation = node.not_node (node.assign target value)

abbrev pub tree : Node
tree = node.statements (nodes (negation ∷ []))
