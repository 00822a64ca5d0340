-- The tokens of f 1 do |x| x end, and its node.
use Rattle.std.specs.Prelude.{pos, true, false, [], ◌∷◌, Some, codes}
use Rattle.rb_syntax.specs.declared.keyword.Keyword.TheVariants as keywords
use Rattle.rb_syntax.specs.declared.punctuator.Punctuator.TheVariants as marks
use Rattle.rb_syntax.specs.declared.token.TokenKind.TheVariants as kinds
use Rattle.parser_tree.specs.Node as node
use Rattle.parser_tree.specs.Node.{Node, nodes}
use Rattle.parser_ahead.specs.Names.{variable}
use Rattle.parser_nodes.specs.Listed.{ListNode, plain_part, nothing_listed, put, arguments_node}
use Rattle.parser_nodes.specs.Calls.{CalleeNode, name_callee, call_node}
use Rattle.parser_form_nodes.specs.Parameters.{ParameterNodes, BlockNode, required, no_parameters, put_parameter, block_of}
use Rattle.parser_laws.specs.Derives.{Names, Tokens}

-- the tokens from each of them on, the last first
abbrev pub block_end : Tokens
block_end = record { kind = kinds.Keyword keywords.End; at = 13; space = true; line_start = false; value = false } ∷ []

abbrev pub used : Tokens
used = record { kind = kinds.Identifier (codes "x"); at = 11; space = true; line_start = false; value = true } ∷
    block_end

abbrev pub close_bar : Tokens
close_bar = record { kind = kinds.Punctuator marks.CloseBar; at = 9; space = false; line_start = false; value = false }
    ∷ used

abbrev pub parameter : Tokens
parameter = record { kind = kinds.Identifier (codes "x"); at = 8; space = false; line_start = false; value = true } ∷
    close_bar

abbrev pub open_bar : Tokens
open_bar = record { kind = kinds.Punctuator marks.OpenBar; at = 7; space = true; line_start = false; value = true } ∷
    parameter

abbrev pub block_begin : Tokens
block_begin = record { kind = kinds.Keyword keywords.Do; at = 4; space = true; line_start = false; value = false } ∷
    open_bar

abbrev pub digit : Tokens
digit = record { kind = kinds.Integer 1; at = 2; space = true; line_start = false; value = true } ∷ block_begin

abbrev pub tokens : Tokens
tokens = record { kind = kinds.Identifier (codes "f"); at = 0; space = false; line_start = true; value = true } ∷ digit

abbrev pub known : Names
known = variable (codes "x") true ∷ []

abbrev pub called : CalleeNode
called = name_callee (codes "f") true

abbrev pub list : ListNode
list = put (plain_part (node.integer (pos 1))) nothing_listed

abbrev pub parameters : ParameterNodes
parameters = put_parameter (required (node.name_parameter (codes "x"))) no_parameters

abbrev pub body : Node
body = node.statements (nodes (node.local (codes "x") ∷ []))

abbrev pub block : BlockNode
block = block_of 4 parameters [] body

abbrev pub command : Node
command = call_node called (Some (arguments_node list)) (Some block)

abbrev pub tree : Node
tree = node.statements (nodes (command ∷ []))
