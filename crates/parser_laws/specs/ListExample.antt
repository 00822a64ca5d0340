-- The tokens of a, *b = ["x", 1], and its node.
use Rattle.std.specs.Prelude.{pos, true, false, [], ◌∷◌, codes}
use Rattle.rb_syntax.specs.declared.core_form.Item.TheVariants.{Plain}
use Rattle.rb_syntax.specs.declared.punctuator.Punctuator.TheVariants as marks
use Rattle.rb_syntax.specs.declared.token.TokenKind.TheVariants as kinds
use Rattle.parser_tree.specs.Node as node
use Rattle.parser_tree.specs.Node.{Node, nodes, one}
use Rattle.parser_tree.specs.View.{items_of}
use Rattle.parser_ahead.specs.Names.{variable}
use Rattle.parser_laws.specs.Derives.{Names, Tokens}

-- the tokens from each of them on, the last first
abbrev pub bracket_end : Tokens
bracket_end = record {
  kind = kinds.Punctuator marks.CloseBracket;
  at = 14;
  space = false;
  line_start = false;
  value =
      false;
} ∷ []

abbrev pub digit : Tokens
digit = record { kind = kinds.Integer 1; at = 13; space = true; line_start = false; value = true } ∷ bracket_end

abbrev pub second_comma : Tokens
second_comma = record { kind = kinds.Punctuator marks.Comma; at = 11; space = false; line_start = false; value = false }
    ∷ digit

abbrev pub string_end : Tokens
string_end = record { kind = kinds.LiteralEnd; at = 10; space = false; line_start = false; value = false } ∷
    second_comma

abbrev pub letter : Tokens
letter = record { kind = kinds.Piece (codes "x"); at = 9; space = false; line_start = false; value = false } ∷
    string_end

abbrev pub string : Tokens
string = record { kind = kinds.StringBegin; at = 8; space = false; line_start = false; value = true } ∷ letter

abbrev pub bracket : Tokens
bracket = record { kind = kinds.Punctuator marks.OpenBracket; at = 7; space = true; line_start = false; value = true } ∷
    string

abbrev pub equals : Tokens
equals = record { kind = kinds.Punctuator marks.Assign; at = 5; space = true; line_start = false; value = false } ∷
    bracket

abbrev pub second_name : Tokens
second_name = record { kind = kinds.Identifier (codes "b"); at = 4; space = false; line_start = false; value = true } ∷
    equals

abbrev pub star : Tokens
star = record { kind = kinds.Punctuator marks.Star; at = 3; space = true; line_start = false; value = true } ∷
    second_name

abbrev pub comma : Tokens
comma = record { kind = kinds.Punctuator marks.Comma; at = 1; space = false; line_start = false; value = false } ∷ star

abbrev pub tokens : Tokens
tokens = record { kind = kinds.Identifier (codes "a"); at = 0; space = false; line_start = true; value = true } ∷ comma

abbrev pub text : Node
text = node.text (nodes (node.piece (codes "x") ∷ []))

abbrev pub array : Node
array = node.array (items_of (Plain text ∷ Plain (node.integer (pos 1)) ∷ []))

abbrev pub targets : Node
targets = node.targets (nodes (node.local (codes "a") ∷ [])) true (one (node.local (codes "b"))) node.none

abbrev pub assignment : Node
assignment = node.multiple_assign targets array

abbrev pub tree : Node
tree = node.statements (nodes (assignment ∷ []))

abbrev pub one_known : Names
one_known = variable (codes "a") false ∷ []

abbrev pub known : Names
known = variable (codes "a") false ∷ variable (codes "b") false ∷ []
