-- The insides of strings, symbols in quotes, lists of words and the bodies of heredocs.
use Rattle.std.specs.Prelude.{◌≡◌, ℕ, suc, ◌+◌, ◌<◌, ◌⊎◌, true, false, List, [], ◌∷◌, ◌++◌, Option, Some, None, Ok, length, take, slice_index}
use Rattle.lexer_literals.specs.declared.escaped.Escape.{Escape}
use Rattle.lexer_literals.specs.declared.plain_escapes.Delimiters.{Delimiters}
use Rattle.lexer_literals.specs.Escaping.{bytes_of}
use Rattle.lexer_literals.specs.Modified.{full_escape_at}
use Rattle.lexer_literals.specs.PlainEscapes.{plain_escape_at, word_escape_at}
use Rattle.rb_syntax.specs.declared.token.TokenKind.{TokenKind}
use Rattle.rb_syntax.specs.declared.token.TokenKind.TheVariants as kinds
use Rattle.lexer_tables.specs.ByteClass.{is_digit, is_name_byte, is_name_start, is_white}
use Rattle.lexer_tables.specs.Following.{expects_value, is_question, wants_name}
use Rattle.lexer_steps.specs.Names.{names_global}
use Rattle.lexer_steps.specs.Signs.{is_delimiter}
use Rattle.lexer_laws.specs.Closed.{delimited_by}
use Rattle.lexer_laws.specs.Place.{Place}
use Rattle.lexer_laws.specs.Signs.{BeginsSymbol, IsSpaced}

-- What stands within: bytes alone, bytes with the two escapes of a delimiter and a backslash, bytes with all escapes
-- and interpolations, or words.
pub data Contents : Type 0 where
  Raw : Contents
  Single : Contents
  Double : Contents
  Words : Contents

-- A literal: its delimiters, which the body of a heredoc lacks; its contents; and where it begins, if a colon after
-- its end makes it a key.
pub record Literal : Type 0 where
  pub delimiters : Option Delimiters
  pub contents : Contents
  pub key : Option ℕ

-- @name or @@name
abbrev pub BeginsAtVariable : List ℕ → ℕ → Type 0
BeginsAtVariable text at =
    (slice_index text at ≡ 64)
    × ((is_name_start (slice_index text (at + 1)) ≡ true)
    ⊎ ((slice_index text (at + 1) ≡ 64) × (is_name_start (slice_index text (at + 2)) ≡ true)))

-- $name, or $ before digits, a mark that names a special global variable, or - and what a name goes on with
abbrev pub BeginsGlobal : List ℕ → ℕ → Type 0
BeginsGlobal text at =
    (slice_index text at ≡ 36)
    × ((is_name_start (slice_index text (at + 1)) ≡ true)
    ⊎ ((is_digit (slice_index text (at + 1)) ≡ true)
    ⊎ ((names_global (slice_index text (at + 1)) ≡ true)
    ⊎ ((slice_index text (at + 1) ≡ 45) × (is_name_byte (slice_index text (at + 2)) ≡ true)))))

-- #{, and # before a variable
abbrev pub BeginsInterpolation : List ℕ → ℕ → Type 0
BeginsInterpolation text at =
    (slice_index text at ≡ 35)
    × ((slice_index text (at + 1) ≡ 123) ⊎ (BeginsAtVariable text (at + 1) ⊎ BeginsGlobal text (at + 1)))

-- the byte that closes a literal, and the one that nests in it, which differs
abbrev pub IsCloser : Option Delimiters → ℕ → Type 0
IsCloser None b = ⊥
IsCloser (Some d) b = b ≡ d.close

abbrev pub IsOpener : Option Delimiters → ℕ → Type 0
IsOpener None b = ⊥
IsOpener (Some d) b = (b ≡ d.«open») × (b ≡ d.close → ⊥)

-- a byte that stands for itself
pub record IsByte (text : List ℕ) (at : ℕ) (bytes : List ℕ) (end : ℕ) : Type 0 where
  pub within : at < length text
  pub bytes_are : bytes ≡ slice_index text at ∷ []
  pub ends : end ≡ at + 1

-- one that is no backslash
pub record IsUnescaped (text : List ℕ) (at : ℕ) (bytes : List ℕ) (end : ℕ) : Type 0 where
  pub byte : IsByte text at bytes end
  pub no_backslash : slice_index text at ≡ 92 → ⊥

-- a backslash, with what the escape after it stands for
pub record IsEscape (text : List ℕ) (escape : Escape) (at : ℕ) (bytes : List ℕ) (end : ℕ) : Type 0 where
  pub backslash : slice_index text at ≡ 92
  pub bytes_are : bytes ≡ bytes_of escape.stands_for
  pub ends : end ≡ escape.end

-- a byte or an escape, by the contents of the literal
abbrev pub ElementOf : Contents → Option Delimiters → List ℕ → ℕ → List ℕ → ℕ → Type 0
ElementOf Raw d text at bytes end = IsByte text at bytes end
ElementOf Single None text at bytes end = ⊥
ElementOf Single (Some d) text at bytes end =
    IsUnescaped text at bytes end ⊎ IsEscape text (plain_escape_at text (at + 1) d) at bytes end
ElementOf Double d text at bytes end =
    (IsUnescaped text at bytes end × (BeginsInterpolation text at → ⊥))
    ⊎ ((e : Escape) × (full_escape_at text (at + 1) ≡ Ok e) × IsEscape text e at bytes end)
ElementOf Words None text at bytes end = ⊥
ElementOf Words (Some d) text at bytes end =
    (is_white (slice_index text at) ≡ false)
    × (IsUnescaped text at bytes end ⊎ IsEscape text (word_escape_at text (at + 1) d) at bytes end)

-- it is no delimiter
pub record IsElement (l : Literal) (text : List ℕ) (at : ℕ) (bytes : List ℕ) (end : ℕ) : Type 0 where
  pub no_closer : IsCloser l.delimiters (slice_index text at) → ⊥
  pub no_opener : IsOpener l.delimiters (slice_index text at) → ⊥
  pub element : ElementOf l.contents l.delimiters text at bytes end

-- Bytes of a literal from a place to another, where so many of its brackets are open within it at the one and at the
-- other. Delimiters that nest stand for themselves.
pub data AreElements (l : Literal) (text : List ℕ) : ℕ → ℕ → List ℕ → ℕ → ℕ → Type 0 where
  None_more : (depth at : ℕ) → AreElements l text depth at [] depth at
  One : (depth at next last end : ℕ) (bytes more : List ℕ) → IsElement l text at bytes next
      → AreElements l text depth next more last end → AreElements l text depth at (bytes ++ more) last end
  Opener : (depth at last end : ℕ) (more : List ℕ) → IsOpener l.delimiters (slice_index text at)
      → AreElements l text (suc depth) (at + 1) more last end
      → AreElements l text depth at (slice_index text at ∷ more) last end
  Closer : (depth at last end : ℕ) (more : List ℕ) → IsCloser l.delimiters (slice_index text at)
      → AreElements l text depth (at + 1) more last end → AreElements l text (suc depth) at (slice_index text at ∷ more)
      last end

-- the closing delimiter, with no bracket open within
abbrev pub IsClosing : Literal → List ℕ → ℕ → ℕ → Type 0
IsClosing l text depth at = (depth ≡ 0) × IsCloser l.delimiters (slice_index text at)

-- what the bytes of a piece or a word go up to
abbrev pub EndsElements : Contents → List ℕ → ℕ → Type 0
EndsElements Raw text at = ⊥
EndsElements Single text at = ⊥
EndsElements Double text at = BeginsInterpolation text at
EndsElements Words text at = is_white (slice_index text at) ≡ true

-- where a piece or a word ends: at the closing delimiter, an interpolation or white space between words, or at the end
-- of a heredoc's body
abbrev pub EndsPiece : Literal → List ℕ → ℕ → ℕ → Type 0
EndsPiece l text depth at =
    IsClosing l text depth at ⊎ (EndsElements l.contents text at ⊎ ((at ≡ length text) × (l.delimiters ≡ None)))

-- bytes of a piece or a word: not empty, from the first byte or escape that stands for any
pub record BeginsPiece (l : Literal) (text : List ℕ) (depth at : ℕ) (bytes : List ℕ) (last end : ℕ) : Type 0 where
  pub elements : AreElements l text depth at bytes last end
  pub some : bytes ≡ [] → ⊥
  pub first : (next : ℕ) → IsElement l text at [] next → ⊥

pub record IsPiece (l : Literal) (text : List ℕ) (depth at : ℕ) (bytes : List ℕ) (last end : ℕ) : Type 0 where
  pub begins : BeginsPiece l text depth at bytes last end
  pub ends : EndsPiece l text last end

-- one that goes on after the bodies of the heredocs on its line, which ends at stop
pub record IsLongPiece (l : Literal) (text : List ℕ) (stop next depth at : ℕ) (bytes : List ℕ) (last end : ℕ) : Type 0
  where
    pub inner : ℕ
    pub before : List ℕ
    pub behind : List ℕ
    pub begins : BeginsPiece l (take stop text) depth at before inner stop
    pub rest : AreElements l text inner next behind last end
    pub bytes_are : bytes ≡ before ++ behind
    pub ends : EndsPiece l text last end

-- the token of such bytes
abbrev pub piece_kind : Contents → List ℕ → TokenKind
piece_kind Raw bytes = kinds.Piece bytes
piece_kind Single bytes = kinds.Piece bytes
piece_kind Double bytes = kinds.Piece bytes
piece_kind Words bytes = kinds.Word bytes

-- a single quote or a double quote, and the contents between two of them
abbrev pub IsQuote : ℕ → Contents → Type 0
IsQuote quote contents = ((quote ≡ 39) × (contents ≡ Single)) ⊎ ((quote ≡ 34) × (contents ≡ Double))

-- after the ? of a conditional a string is no key
abbrev pub IsKey : Place → Option ℕ → Type 0
IsKey p key = ((is_question p.context ≡ true) × (key ≡ None)) ⊎ ((is_question p.context ≡ false) × (key ≡ Some p.at))

-- a quote opens a string
pub record OpensString (text : List ℕ) (p : Place) (l : Literal) (end : ℕ) : Type 0 where
  pub quote : IsQuote (slice_index text p.at) l.contents
  pub delimiters_are : l.delimiters ≡ Some (delimited_by (slice_index text p.at))
  pub key_is : IsKey p l.key
  pub ends : end ≡ p.at + 1

-- a colon where a symbol may begin, and a quote directly after it
pub record OpensSymbol (text : List ℕ) (p : Place) (l : Literal) (end : ℕ) : Type 0 where
  pub begins : BeginsSymbol text p
  pub quote : IsQuote (slice_index text (p.at + 1)) l.contents
  pub delimiters_are : l.delimiters ≡ Some (delimited_by (slice_index text (p.at + 1)))
  pub no_key : l.key ≡ None
  pub ends : end ≡ p.at + 2

-- % where a value is expected, and no name
abbrev pub ValuePercent : List ℕ → Place → Type 0
ValuePercent text p =
    (slice_index text p.at ≡ 37) × (expects_value p.context ≡ true) × (wants_name p.context ≡ false)

-- or after an identifier and white space, if it is no assignment
abbrev pub NamePercent : List ℕ → Place → Type 0
NamePercent text p =
    (slice_index text p.at ≡ 37) × (expects_value p.context ≡ false) × (wants_name p.context ≡ false) × IsSpaced text p

-- % and a delimiter open a string as a double quote does
pub record OpensPercent (text : List ℕ) (p : Place) (l : Literal) (end : ℕ) : Type 0 where
  pub percent : ValuePercent text p
  pub delimiter : is_delimiter (slice_index text (p.at + 1)) ≡ true
  pub delimiters_are : l.delimiters ≡ Some (delimited_by (slice_index text (p.at + 1)))
  pub double : l.contents ≡ Double
  pub no_key : l.key ≡ None
  pub ends : end ≡ p.at + 2

-- what the letters q, Q, w and i open
abbrev pub LetterOpens : ℕ → TokenKind → Contents → Type 0
LetterOpens letter kind contents =
    ((letter ≡ 113) × (kind ≡ kinds.StringBegin) × (contents ≡ Single))
    ⊎ (((letter ≡ 81) × (kind ≡ kinds.StringBegin) × (contents ≡ Double))
    ⊎ (((letter ≡ 119) × (kind ≡ kinds.WordsBegin) × (contents ≡ Words))
    ⊎ ((letter ≡ 105) × (kind ≡ kinds.SymbolsBegin) × (contents ≡ Words))))

-- %, one of these letters and a delimiter
pub record OpensLetter (text : List ℕ) (p : Place) (kind : TokenKind) (l : Literal) (end : ℕ) : Type 0 where
  pub percent : ValuePercent text p ⊎ NamePercent text p
  pub letter : LetterOpens (slice_index text (p.at + 1)) kind l.contents
  pub delimiter : is_delimiter (slice_index text (p.at + 2)) ≡ true
  pub delimiters_are : l.delimiters ≡ Some (delimited_by (slice_index text (p.at + 2)))
  pub no_key : l.key ≡ None
  pub ends : end ≡ p.at + 3

-- the opening of a literal that closes with a delimiter
abbrev pub OpensLiteral : List ℕ → Place → TokenKind → Literal → ℕ → Type 0
OpensLiteral text p kind l end =
    ((kind ≡ kinds.StringBegin) × (OpensString text p l end ⊎ OpensPercent text p l end))
    ⊎ (((kind ≡ kinds.SymbolBegin) × OpensSymbol text p l end)
    ⊎ OpensLetter text p kind l end)
