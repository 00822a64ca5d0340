-- The tokens of x = 1 and of def f(a) if a then end end, and their nodes.
use Rattle.std.specs.Prelude.{ℕ, pos, true, false, [], ◌∷◌, None, codes}
use Rattle.rb_syntax.specs.declared.keyword.Keyword.TheVariants as keywords
use Rattle.rb_syntax.specs.declared.punctuator.Punctuator.TheVariants as marks
use Rattle.rb_syntax.specs.declared.token.Token.{Token}
use Rattle.rb_syntax.specs.declared.token.TokenKind.{TokenKind}
use Rattle.rb_syntax.specs.declared.token.TokenKind.TheVariants as kinds
use Rattle.parser_tree.specs.declared.tree.RestParameter.TheVariants as rests
use Rattle.parser_tree.specs.Node as node
use Rattle.parser_tree.specs.Node.{Node, nodes, none}
use Rattle.parser_ahead.specs.Names.{variable}
use Rattle.parser_laws.specs.Derives.{Names, Tokens}

abbrev pub one : Tokens
one = record { kind = kinds.Integer 1; at = 4; space = true; line_start = false; value = true } ∷ []

abbrev pub equals_one : Tokens
equals_one = record { kind = kinds.Punctuator marks.Assign; at = 2; space = true; line_start = false; value = false } ∷
    one

abbrev pub tokens : Tokens
tokens = record { kind = kinds.Identifier (codes "x"); at = 0; space = false; line_start = true; value = true } ∷
    equals_one

abbrev pub assignment : Node
assignment = node.assign (node.local (codes "x")) (node.integer (pos 1))

abbrev pub tree : Node
tree = node.statements (nodes (assignment ∷ []))

abbrev pub known : Names
known = variable (codes "x") false ∷ []

-- a token behind white space, where a value is expected
abbrev pub word : TokenKind → ℕ → Token
word k at = record { kind = k; at = at; space = true; line_start = false; value = true }

abbrev pub ends_method : Tokens
ends_method = word (kinds.Keyword keywords.End) 21 ∷ []

abbrev pub ends_if : Tokens
ends_if = word (kinds.Keyword keywords.End) 17 ∷ ends_method

abbrev pub then_ends : Tokens
then_ends = word (kinds.Keyword keywords.Then) 12 ∷ ends_if

abbrev pub test : Tokens
test = word (kinds.Identifier (codes "a")) 10 ∷ then_ends

abbrev pub body : Tokens
body = word (kinds.Keyword keywords.If) 8 ∷ test

abbrev pub closes : Tokens
closes = word (kinds.Punctuator marks.CloseParenthesis) 7 ∷ body

abbrev pub parameter : Tokens
parameter = word (kinds.Identifier (codes "a")) 6 ∷ closes

abbrev pub opens : Tokens
opens = word (kinds.Punctuator marks.OpenParenthesis) 5 ∷ parameter

abbrev pub name : Tokens
name = word (kinds.Identifier (codes "f")) 4 ∷ opens

abbrev pub method_tokens : Tokens
method_tokens = word (kinds.Keyword keywords.Def) 0 ∷ name

abbrev pub inner : Names
inner = variable (codes "a") true ∷ []

abbrev pub branch : Node
branch = node.if_node (nodes (node.branch (node.local (codes "a")) (node.statements none) ∷ [])) none

abbrev pub method : Node
method =
    node.define none (codes "f") (node.definition 0 (nodes (node.name_parameter (codes "a") ∷ [])) none rests.Absent none
    None none [] (node.statements (nodes (branch ∷ []))))

abbrev pub method_tree : Node
method_tree = node.statements (nodes (method ∷ []))
