-- Marks, symbols and characters: what begins with a sign.
use Rattle.std.specs.Prelude.{◌≡◌, ℕ, ◌+◌, ◌⊎◌, true, false, List, [], ◌∷◌, Some, codes, length, slice_index}
use Rattle.rb_syntax.specs.declared.punctuator.Punctuator.{Punctuator}
use Rattle.rb_syntax.specs.declared.punctuator.Punctuator.TheVariants as marks
use Rattle.lexer_tables.specs.ByteClass.{is_letter, is_punctuation, is_white}
use Rattle.lexer_tables.specs.Following.{expects_value, is_block, is_name, wants_name}
use Rattle.lexer_steps.specs.Names.{spelled}
use Rattle.lexer_steps.specs.Signs.{is_character, is_percent_letter}
use Rattle.rb_lexer.specs.declared.heads.HeadPlace.{HeadPlace}
use Rattle.rb_lexer.specs.Heads.{head_at, is_plain_head}
use Rattle.lexer_laws.specs.Longest.{IsLongest, Stands}
use Rattle.lexer_laws.specs.Names.{IsName, IsWord, IsVariable}
use Rattle.lexer_laws.specs.Operators.{LongestOperator}
use Rattle.lexer_laws.specs.Gaps.{BeginsLine}
use Rattle.lexer_laws.specs.Place.{Place}

-- the operators that name methods
abbrev pub operator_names : List (List ℕ)
operator_names =
    codes "+" ∷ codes "-" ∷ codes "*" ∷ codes "/" ∷ codes "%" ∷ codes "**" ∷ codes "!" ∷ codes "~"
    ∷ codes "+@" ∷ codes "-@" ∷ codes "==" ∷ codes "!=" ∷ codes "===" ∷ codes "<" ∷ codes "<="
    ∷ codes ">" ∷ codes ">=" ∷ codes "<=>" ∷ codes "<<" ∷ codes ">>"
    ∷ codes "&" ∷ codes "|" ∷ codes "^" ∷ codes "[]" ∷ codes "[]=" ∷ []

-- one of some words stands from a place to its end
abbrev pub OneStands : List (List ℕ) → List ℕ → ℕ → ℕ → Type 0
OneStands [] text at end = ⊥
OneStands (word ∷ words) text at end = (Stands text at word × (end ≡ at + length word)) ⊎ OneStands words text at end

abbrev pub IsOperatorName : List ℕ → ℕ → ℕ → Type 0
IsOperatorName text at end = OneStands operator_names text at end

-- a = belongs to the name of a symbol unless =, ~ or > follows
pub record SymbolTakesEqual (text : List ℕ) (at : ℕ) : Type 0 where
  pub equal : slice_index text at ≡ 61
  pub no_equal : slice_index text (at + 1) ≡ 61 → ⊥
  pub no_tilde : slice_index text (at + 1) ≡ 126 → ⊥
  pub no_arrow : slice_index text (at + 1) ≡ 62 → ⊥

-- the name of a symbol: a word, a name with =, a variable or an operator that names a method
abbrev pub IsSymbolName : List ℕ → ℕ → ℕ → Type 0
IsSymbolName text at end =
    IsWord text at end
    ⊎ (((last : ℕ) × IsName text at last × SymbolTakesEqual text last × (end ≡ last + 1))
    ⊎ ((IsVariable 64 text at end ⊎ IsVariable 36 text at end) ⊎ IsOperatorName text at end))

-- a colon begins a symbol where a value is expected or white space stands before
pub record BeginsSymbol (text : List ℕ) (p : Place) : Type 0 where
  pub colon : slice_index text p.at ≡ 58
  pub allowed : (expects_value p.context ≡ true) ⊎ (p.space ≡ true)

pub record IsSymbol (text : List ℕ) (p : Place) (bytes : List ℕ) (end : ℕ) : Type 0 where
  pub begins : BeginsSymbol text p
  pub name : IsLongest (IsSymbolName text (p.at + 1)) end
  pub bytes_are : bytes ≡ spelled text (p.at + 1) end

-- a symbol in quotes or without
abbrev pub SymbolFollows : List ℕ → ℕ → Type 0
SymbolFollows text at = ((slice_index text at ≡ 34) ⊎ (slice_index text at ≡ 39))
    ⊎ ((end : ℕ) × IsSymbolName text at end)

-- ?c where a value is expected
pub record IsCharacter (text : List ℕ) (p : Place) (byte end : ℕ) : Type 0 where
  pub question : slice_index text p.at ≡ 63
  pub value : expects_value p.context ≡ true
  pub character : is_character text p.at ≡ true
  pub byte_is : byte ≡ slice_index text (p.at + 1)
  pub ends : end ≡ p.at + 2

-- after an identifier and white space, with none after the mark
pub record IsSpaced (text : List ℕ) (p : Place) : Type 0 where
  pub name : is_name p.context ≡ true
  pub space : p.space ≡ true
  pub no_space : is_white (slice_index text (p.at + 1)) ≡ false

-- after % where a value is expected: a delimiter, a letter of the language and a delimiter, or what is outside it
abbrev pub PercentFollows : List ℕ → ℕ → Type 0
PercentFollows text at =
    (is_percent_letter (slice_index text at) (slice_index text (at + 1)) ≡ true)
    ⊎ ((is_letter (slice_index text at) ≡ true) × (is_punctuation (slice_index text (at + 1)) ≡ true)
    ⊎ (is_punctuation (slice_index text at) ≡ true))

-- a mark that may divide or take a remainder, or begin a literal
abbrev pub IsAmbiguous : List ℕ → Place → Type 0
IsAmbiguous text p =
    IsSpaced text p ×
    ((slice_index text p.at ≡ 63)
    ⊎ (((slice_index text p.at ≡ 47) × (slice_index text (p.at + 1) ≡ 61 → ⊥))
    ⊎ ((slice_index text p.at ≡ 37) × (slice_index text (p.at + 1) ≡ 61 → ⊥)
    × (is_percent_letter (slice_index text (p.at + 1)) (slice_index text (p.at + 2)) ≡ false))))

-- << and the head of a heredoc where a value is expected, or after an identifier and white space
abbrev pub IsHeredocHead : List ℕ → Place → HeadPlace → Type 0
IsHeredocHead text p h =
    Stands text p.at (codes "<<") × (head_at text p.at ≡ Some h)
    × ((expects_value p.context ≡ true) ⊎ ((is_name p.context ≡ true) × (p.space ≡ true) × (is_plain_head h ≡ true)))

abbrev pub BeginsHeredoc : List ℕ → Place → Type 0
BeginsHeredoc text p = (h : HeadPlace) × IsHeredocHead text p h

-- no comment, name or literal begins with the sign at a place
pub record IsBareSign (text : List ℕ) (p : Place) : Type 0 where
  pub no_block : BeginsLine text p.at → Stands text p.at (codes "=begin") → ⊥
  pub no_name : wants_name p.context ≡ true → (end : ℕ) → IsOperatorName text p.at end → ⊥
  pub no_symbol : BeginsSymbol text p → SymbolFollows text (p.at + 1) → ⊥
  pub no_regexp : slice_index text p.at ≡ 47 → expects_value p.context ≡ false
  pub no_character : slice_index text p.at ≡ 63 → expects_value p.context ≡ true → is_character text p.at ≡ false
  pub no_percent : slice_index text p.at ≡ 37 → expects_value p.context ≡ true → PercentFollows text (p.at + 1) → ⊥
  pub no_spaced_percent : slice_index text p.at ≡ 37 → IsSpaced text p → slice_index text (p.at + 1) ≡ 61
  pub no_heredoc : wants_name p.context ≡ false → BeginsHeredoc text p → ⊥
  pub no_bars : slice_index text p.at ≡ 124 → (is_block p.context ≡ false) × (p.bars ≡ false)
  pub clear : IsAmbiguous text p → ⊥

-- a bar directly after { or do opens the parameters of a block
pub record IsOpenBar (text : List ℕ) (p : Place) (end : ℕ) : Type 0 where
  pub bar : slice_index text p.at ≡ 124
  pub behind_block : is_block p.context ≡ true
  pub ends : end ≡ p.at + 1

-- and the next one closes them
pub record IsCloseBar (text : List ℕ) (p : Place) (end : ℕ) : Type 0 where
  pub bar : slice_index text p.at ≡ 124
  pub no_block : is_block p.context ≡ false
  pub opened : p.bars ≡ true
  pub not_wanted : wants_name p.context ≡ false
  pub ends : end ≡ p.at + 1

-- a mark is a bar of parameters, or the longest operator where nothing else begins
abbrev pub IsMark : List ℕ → Place → Punctuator → ℕ → Type 0
IsMark text p mark end =
    ((mark ≡ marks.OpenBar) × IsOpenBar text p end)
    ⊎ (((mark ≡ marks.CloseBar) × IsCloseBar text p end)
    ⊎ (LongestOperator text p.at mark end × IsBareSign text p))
