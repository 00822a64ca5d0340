-- A text that reads as two tokens, and some with literals.
use Rattle.std.specs.Prelude.{ℕ, List, [], ◌∷◌, codes, Bool, true, false}
use Rattle.rb_syntax.specs.declared.token.Token.{Token}
use Rattle.rb_syntax.specs.declared.token.TokenKind.{TokenKind}
use Rattle.rb_syntax.specs.declared.token.TokenKind.TheVariants as kinds

abbrev pub text : List ℕ
text = codes "a 1"

abbrev pub tokens : List Token
tokens =
    record { kind = kinds.Identifier (codes "a"); at = 0; space = false; line_start = true; value = true }
    ∷ record { kind = kinds.Integer 1; at = 2; space = true; line_start = false; value = false }
    ∷ []

abbrev pub string_text : List ℕ
string_text = codes "\"a#{1}\""

abbrev pub in_string : ℕ → TokenKind → Bool → Token
in_string at kind value = record { kind = kind; at = at; space = false; line_start = false; value = value }

abbrev pub string_tokens : List Token
string_tokens =
    record { kind = kinds.StringBegin; at = 0; space = false; line_start = true; value = true }
    ∷ in_string 1 (kinds.Piece (codes "a")) false
    ∷ in_string 2 kinds.InterpolationBegin false
    ∷ in_string 4 (kinds.Integer 1) true
    ∷ in_string 5 kinds.InterpolationEnd false
    ∷ in_string 6 kinds.LiteralEnd false
    ∷ []

-- and one with a heredoc, whose contents stand before what follows its head on the line
abbrev pub heredoc_text : List ℕ
heredoc_text = codes "<<A;\nb\nA\n"

abbrev pub heredoc_tokens : List Token
heredoc_tokens =
    record { kind = kinds.StringBegin; at = 0; space = false; line_start = true; value = true }
    ∷ in_string 5 (kinds.Piece (codes "b\n")) false
    ∷ in_string 7 kinds.LiteralEnd false
    ∷ in_string 3 kinds.Semicolon false
    ∷ []

-- a list of words, with brackets in one
abbrev pub words_text : List ℕ
words_text = codes "%w(a (b))"

abbrev pub words_tokens : List Token
words_tokens =
    record { kind = kinds.WordsBegin; at = 0; space = false; line_start = true; value = true }
    ∷ in_string 3 (kinds.Word (codes "a")) false
    ∷ in_string 5 (kinds.Word (codes "(b)")) false
    ∷ in_string 8 kinds.LiteralEnd false
    ∷ []
