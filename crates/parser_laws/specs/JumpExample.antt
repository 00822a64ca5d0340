-- The tokens of !yield[0], and its node.
use Rattle.std.specs.Prelude.{pos, true, false, [], ◌∷◌}
use Rattle.rb_syntax.specs.declared.keyword.Keyword.TheVariants as keywords
use Rattle.rb_syntax.specs.declared.punctuator.Punctuator.TheVariants as marks
use Rattle.rb_syntax.specs.declared.token.TokenKind.TheVariants as kinds
use Rattle.parser_tree.specs.Node as node
use Rattle.parser_tree.specs.Node.{Node, nodes}
use Rattle.parser_laws.specs.Derives.{Tokens}

-- the tokens from each of them on, the last first
abbrev pub bracket_end : Tokens
bracket_end = record {
  kind = kinds.Punctuator marks.CloseBracket;
  at = 8;
  space = false;
  line_start = false;
  value =
      false;
} ∷ []

abbrev pub digit : Tokens
digit = record { kind = kinds.Integer 0; at = 7; space = false; line_start = false; value = true } ∷ bracket_end

abbrev pub bracket : Tokens
bracket = record { kind = kinds.Punctuator marks.OpenBracket; at = 6; space = false; line_start = false; value = false }
    ∷ digit

abbrev pub jump : Tokens
jump = record { kind = kinds.Keyword keywords.Yield; at = 1; space = false; line_start = false; value = true } ∷ bracket

abbrev pub tokens : Tokens
tokens = record { kind = kinds.Punctuator marks.Not; at = 0; space = false; line_start = true; value = true } ∷ jump

abbrev pub index : Node
index = node.index (node.yield_node 1 node.none) (nodes (node.integer (pos 0) ∷ []))

abbrev pub negation : Node
negation = node.not_node index

abbrev pub tree : Node
tree = node.statements (nodes (negation ∷ []))
