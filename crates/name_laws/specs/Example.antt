-- The tokens of `x = 1; f { |a| a + x }`, its variables and its tree.
use Rattle.std.specs.Prelude.{ℕ, pos, true, false, List, [], ◌∷◌, None, codes}
use Rattle.rb_syntax.specs.declared.punctuator.Punctuator.{Punctuator}
use Rattle.rb_syntax.specs.declared.punctuator.Punctuator.TheVariants as marks
use Rattle.rb_syntax.specs.declared.token.Token.{Token}
use Rattle.rb_syntax.specs.declared.token.TokenKind.{TokenKind}
use Rattle.rb_syntax.specs.declared.token.TokenKind.TheVariants as kinds
use Rattle.parser_tree.specs.declared.tree.RestParameter.TheVariants as rests
use Rattle.parser_tree.specs.declared.operator.BinaryOperator.TheVariants as operators
use Rattle.parser_tree.specs.Node as node
use Rattle.parser_tree.specs.Node.{Name, Node, nodes, none, one}
use Rattle.parser_forms.specs.Reading.{Tokens}

-- a token behind white space, and whether a value may begin there
abbrev pub word : TokenKind → ℕ → Token
word k at = record { kind = k; at = at; space = true; line_start = false; value = true }

abbrev pub mark : Punctuator → ℕ → Token
mark p at = record { kind = kinds.Punctuator p; at = at; space = true; line_start = false; value = false }

abbrev pub block : Tokens
block =
    mark marks.OpenBrace 9 ∷ mark marks.OpenBar 11 ∷ word (kinds.Identifier (codes "a")) 12 ∷ mark marks.CloseBar 13
    ∷ word (kinds.Identifier (codes "a")) 15 ∷ mark marks.Plus 17 ∷ word (kinds.Identifier (codes "x")) 19
    ∷ mark marks.CloseBrace 21 ∷ []

abbrev pub tokens : Tokens
tokens =
    word (kinds.Identifier (codes "x")) 0 ∷ mark marks.Assign 2 ∷ word (kinds.Integer 1) 4 ∷ word kinds.Semicolon 5
    ∷ word (kinds.Identifier (codes "f")) 7 ∷ block

abbrev pub variables : List Name
variables = codes "x" ∷ []

abbrev pub sum : Node
sum = node.operation (node.local (codes "a")) operators.Plus (node.local (codes "x"))

abbrev pub definition : Node
definition =
    node.definition 9 (one (node.name_parameter (codes "a"))) none rests.Absent none None none []
    (node.statements (one sum))

abbrev pub tree : Node
tree =
    node.statements (nodes (
    node.assign (node.local (codes "x")) (node.integer (pos 1))
    ∷ node.call none (codes "f") none (one definition) ∷ []))
