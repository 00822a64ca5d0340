-- Literals outside the language: where what a delimiter opens is closed.
use Rattle.std.specs.Prelude.{◌≡◌, ℕ, suc, ◌+◌, ◌<◌, ◌⊎◌, true, false, List, length, slice_index}
use Rattle.lexer_literals.specs.declared.plain_escapes.Delimiters.{Delimiters}
use Rattle.lexer_tables.specs.ByteClass.{between, is_letter, is_punctuation}
use Rattle.lexer_tables.specs.Following.{expects_value, wants_name}
use Rattle.lexer_steps.specs.Closed.{closing}
use Rattle.lexer_steps.specs.Signs.{is_delimiter, is_percent_letter}
use Rattle.lexer_laws.specs.Longest.{IsLongest, IsRun}
use Rattle.lexer_laws.specs.Place.{Place}

-- a delimiter and the one that closes what it opens: brackets have a counterpart, any other byte is its own
abbrev pub delimited_by : ℕ → Delimiters
delimited_by b = record { «open» = b; close = closing b }

-- a byte that is no backslash and no delimiter
pub record IsOrdinary (text : List ℕ) (d : Delimiters) (at : ℕ) : Type 0 where
  pub within : at < length text
  pub no_backslash : slice_index text at ≡ 92 → ⊥
  pub no_open : slice_index text at ≡ d.«open» → ⊥
  pub no_close : slice_index text at ≡ d.close → ⊥

-- From a place, with so many brackets open within it, a literal goes up to its end after the delimiter that closes
-- it. A backslash takes the next byte.
pub data IsClosed (text : List ℕ) (d : Delimiters) : ℕ → ℕ → ℕ → Type 0 where
  Closes : (at : ℕ) → (slice_index text at ≡ 92 → ⊥) → slice_index text at ≡ d.close → IsClosed text d 0 at (at + 1)
  Escapes : (depth at end : ℕ) → slice_index text at ≡ 92 → at + 1 < length text → IsClosed text d depth (at + 2) end
      → IsClosed text d depth at end
  Opens : (depth at end : ℕ) → (slice_index text at ≡ 92 → ⊥) → slice_index text at ≡ d.«open»
      → (slice_index text at ≡ d.close → ⊥) → IsClosed text d (suc depth) (at + 1) end → IsClosed text d depth at end
  Nests : (depth at end : ℕ) → (slice_index text at ≡ 92 → ⊥) → slice_index text at ≡ d.close
      → IsClosed text d depth (at + 1) end → IsClosed text d (suc depth) at end
  Other : (depth at end : ℕ) → IsOrdinary text d at → IsClosed text d depth (at + 1) end → IsClosed text d depth at end

-- small letters after what a / closes are its options
abbrev pub TakesOptions : List ℕ → ℕ → ℕ → ℕ → Type 0
TakesOptions text opener at end =
    ((opener ≡ 47) × IsLongest (IsRun (between 97 122) text at) end) ⊎ ((opener ≡ 47 → ⊥) × (end ≡ at))

-- a literal whose delimiter stands before a place
pub record IsDelimited (text : List ℕ) (opener from end : ℕ) : Type 0 where
  pub last : ℕ
  pub closed : IsClosed text (delimited_by opener) 0 from last
  pub options : TakesOptions text opener last end

-- / where a value is expected, and not the name of a method
pub record IsRegexp (text : List ℕ) (p : Place) (end : ℕ) : Type 0 where
  pub slash : slice_index text p.at ≡ 47
  pub value : expects_value p.context ≡ true
  pub not_wanted : wants_name p.context ≡ false
  pub literal : IsDelimited text 47 (p.at + 1) end

-- a backquote where a value is expected
pub record IsBackquote (text : List ℕ) (p : Place) (end : ℕ) : Type 0 where
  pub backquote : slice_index text p.at ≡ 96
  pub value : expects_value p.context ≡ true
  pub literal : IsDelimited text 96 (p.at + 1) end

-- after % stands a letter and a punctuation mark, or such a mark alone, that the language gives no literal
abbrev pub IsOtherPercent : List ℕ → ℕ → ℕ → Type 0
IsOtherPercent text at end =
    ((is_letter (slice_index text at) ≡ true) × (is_punctuation (slice_index text (at + 1)) ≡ true)
    × IsDelimited text (slice_index text (at + 1)) (at + 2) end)
    ⊎ ((is_punctuation (slice_index text at) ≡ true) × IsDelimited text (slice_index text at) (at + 1) end)

-- % where a value is expected, before what the language gives no literal
pub record IsPercentLiteral (text : List ℕ) (p : Place) (end : ℕ) : Type 0 where
  pub percent : slice_index text p.at ≡ 37
  pub value : expects_value p.context ≡ true
  pub not_wanted : wants_name p.context ≡ false
  pub no_delimiter : is_delimiter (slice_index text (p.at + 1)) ≡ false
  pub no_letter : is_percent_letter (slice_index text (p.at + 1)) (slice_index text (p.at + 2)) ≡ false
  pub other : IsOtherPercent text (p.at + 1) end
