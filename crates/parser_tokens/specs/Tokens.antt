-- The token at the front of some tokens, and what is behind it.
use Rattle.std.specs.Prelude.{ℕ, Bool, true, false, if◌then◌else◌, List, [], ◌∷◌}
use Rattle.rb_syntax.specs.declared.keyword.Keyword.{Keyword}
use Rattle.rb_syntax.specs.declared.keyword.Keyword.TheVariants as keywords
use Rattle.rb_syntax.specs.declared.token.Token.{Token}
use Rattle.rb_syntax.specs.declared.token.TokenKind.{TokenKind}
use Rattle.rb_syntax.specs.declared.token.TokenKind.TheVariants as kinds
use Rattle.parser_tokens.specs.declared.word.Word.{Word}
use Rattle.parser_tokens.specs.declared.word.Word.TheVariants as words
use Rattle.parser_tokens.specs.declared.word.Modifier.TheVariants as modifiers

-- some of the keywords are modifiers where no value is expected
abbrev pub keyword_word : Keyword → Bool → Word
keyword_word keywords.If value = if value then words.Key keywords.If else words.Modifier modifiers.If
keyword_word keywords.Unless value = if value then words.Key keywords.Unless else words.Modifier modifiers.Unless
keyword_word keywords.While value = if value then words.Key keywords.While else words.Modifier modifiers.While
keyword_word keywords.Until value = if value then words.Key keywords.Until else words.Modifier modifiers.Until
keyword_word keywords.Rescue value = if value then words.Key keywords.Rescue else words.Modifier modifiers.Rescue
keyword_word k value = words.Key k

abbrev pub kind_word : TokenKind → Bool → Word
kind_word kinds.Newline value = words.Newline
kind_word kinds.Semicolon value = words.Semicolon
kind_word (kinds.Identifier x) value = words.Identifier
kind_word (kinds.Constant x) value = words.Constant
kind_word (kinds.MethodName x) value = words.MethodName
kind_word (kinds.InstanceVariable x) value = words.InstanceVariable
kind_word (kinds.GlobalVariable x) value = words.GlobalVariable
kind_word (kinds.Label x) value = words.Label
kind_word (kinds.Keyword k) value = keyword_word k value
kind_word (kinds.Punctuator p) value = words.Mark p
kind_word (kinds.Integer n) value = words.Integer
kind_word (kinds.Character c) value = words.Character
kind_word (kinds.Symbol x) value = words.Symbol
kind_word kinds.StringBegin value = words.StringBegin
kind_word kinds.SymbolBegin value = words.SymbolBegin
kind_word kinds.WordsBegin value = words.WordsBegin
kind_word kinds.SymbolsBegin value = words.SymbolsBegin
kind_word (kinds.Piece x) value = words.Piece
kind_word (kinds.Word x) value = words.Element
kind_word kinds.InterpolationBegin value = words.InterpolationBegin
kind_word kinds.InterpolationEnd value = words.InterpolationEnd
kind_word kinds.LiteralEnd value = words.LiteralEnd
kind_word (kinds.Outside o) value = words.Other o

unfoldable pub word_of : Token → Word
word_of t = kind_word t.kind t.value

-- the word at the front, and the tokens behind it
unfoldable pub first : List Token → Word
first [] = words.Finish
first (t ∷ ts) = word_of t

unfoldable pub behind : List Token → List Token
behind [] = []
behind (t ∷ ts) = ts

abbrev pub skip_if : Bool → List Token → List Token
skip_if more ts = if more then behind ts else ts

abbrev pub bytes_of : TokenKind → List ℕ
bytes_of (kinds.Identifier x) = x
bytes_of (kinds.Constant x) = x
bytes_of (kinds.MethodName x) = x
bytes_of (kinds.InstanceVariable x) = x
bytes_of (kinds.GlobalVariable x) = x
bytes_of (kinds.Label x) = x
bytes_of (kinds.Symbol x) = x
bytes_of (kinds.Piece x) = x
bytes_of (kinds.Word x) = x
bytes_of _ = []

-- the bytes of the token at the front
unfoldable pub bytes_at : List Token → List ℕ
bytes_at [] = []
bytes_at (t ∷ ts) = bytes_of t.kind

abbrev pub integer_of : TokenKind → ℕ
integer_of (kinds.Integer n) = n
integer_of _ = 0

unfoldable pub integer_at : List Token → ℕ
integer_at [] = 0
integer_at (t ∷ ts) = integer_of t.kind

abbrev pub character_of : TokenKind → ℕ
character_of (kinds.Character c) = c
character_of _ = 0

unfoldable pub character_at : List Token → ℕ
character_at [] = 0
character_at (t ∷ ts) = character_of t.kind

unfoldable pub place_at : List Token → ℕ
place_at [] = 0
place_at (t ∷ ts) = t.at

-- white space stands before the first of these tokens, or there is none
unfoldable pub is_apart : List Token → Bool
is_apart [] = true
is_apart (t ∷ ts) = t.space
