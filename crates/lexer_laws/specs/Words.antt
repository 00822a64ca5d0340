-- The tokens that words are: labels, keywords, identifiers, constants and names of methods.
use Rattle.std.specs.Prelude.{◌≡◌, ℕ, ◌+◌, ◌⊎◌, true, false, List, Some, None, slice_index}
use Rattle.rb_syntax.specs.declared.keyword.Keyword.{Keyword}
use Rattle.lexer_tables.specs.declared.context.Context.{Context}
use Rattle.lexer_tables.specs.ByteClass.{is_capital, is_name_start, is_wide}
use Rattle.lexer_tables.specs.Following.{is_def, wants_name}
use Rattle.lexer_tables.specs.Keyword.{keyword_of}
use Rattle.lexer_steps.specs.Scan.{is_wide_name_byte}
use Rattle.lexer_steps.specs.Names.{spelled}
use Rattle.lexer_laws.specs.Longest.{IsLongest, IsRun}
use Rattle.lexer_laws.specs.Names.{IsName, IsWord}

-- the longest name at a place, and the longest with its mark
pub record WordAt (text : List ℕ) (at name word : ℕ) : Type 0 where
  pub name_is : IsLongest (IsName text at) name
  pub word_is : IsLongest (IsWord text at) word
  pub ascii : is_wide (slice_index text name) ≡ false

-- a colon that is no part of ::
pub record IsColon (text : List ℕ) (at : ℕ) : Type 0 where
  pub colon : slice_index text at ≡ 58
  pub alone : slice_index text (at + 1) ≡ 58 → ⊥

-- after def the name before it takes a = where a parenthesis follows, or a space and a name
pub record TakesEqual (text : List ℕ) (at : ℕ) : Type 0 where
  pub equal : slice_index text at ≡ 61
  pub follows : (slice_index text (at + 1) ≡ 40) ⊎ ((slice_index text (at + 1) ≡ 32)
      × (is_name_start (slice_index text (at + 2)) ≡ true))

-- a word with a colon directly after it
pub record IsLabel (text : List ℕ) (at : ℕ) (bytes : List ℕ) (end : ℕ) : Type 0 where
  pub name : ℕ
  pub word : ℕ
  pub read : WordAt text at name word
  pub colon : IsColon text word
  pub bytes_are : bytes ≡ spelled text at word
  pub ends : end ≡ word + 1

-- a word of the table where no name is wanted
pub record IsKeyword (text : List ℕ) (at : ℕ) (context : Context) (keyword : Keyword) (end : ℕ) : Type 0 where
  pub name : ℕ
  pub read : WordAt text at name end
  pub no_label : IsColon text end → ⊥
  pub not_wanted : wants_name context ≡ false
  pub in_table : keyword_of (spelled text at end) ≡ Some keyword

-- a name without a mark that is no keyword
pub record IsPlainName (text : List ℕ) (at : ℕ) (context : Context) (bytes : List ℕ) (end : ℕ) : Type 0 where
  pub read : WordAt text at end end
  pub no_label : IsColon text end → ⊥
  pub not_in_table : keyword_of (spelled text at end) ≡ None
  pub no_equal : is_def context ≡ true → TakesEqual text end → ⊥
  pub bytes_are : bytes ≡ spelled text at end

pub record IsIdentifier (text : List ℕ) (at : ℕ) (context : Context) (bytes : List ℕ) (end : ℕ) : Type 0 where
  pub name : IsPlainName text at context bytes end
  pub small : is_capital (slice_index text at) ≡ false

pub record IsConstant (text : List ℕ) (at : ℕ) (context : Context) (bytes : List ℕ) (end : ℕ) : Type 0 where
  pub name : IsPlainName text at context bytes end
  pub capital : is_capital (slice_index text at) ≡ true

-- where a name is wanted it ends after its mark, or after the = that it takes there
abbrev pub EndsWanted : List ℕ → Context → ℕ → ℕ → Type 0
EndsWanted text context word end =
    ((is_def context ≡ true) × TakesEqual text word × (end ≡ word + 1))
    ⊎ ((is_def context ≡ true → TakesEqual text word → ⊥) × (end ≡ word))

-- a name that only a method has: with its mark or =, or a keyword where a name is wanted
abbrev pub IsOnlyMethod : List ℕ → ℕ → Context → ℕ → ℕ → ℕ → Type 0
IsOnlyMethod text at context name word end =
    ((wants_name context ≡ false) × (end ≡ word) × (word ≡ name → ⊥) × (keyword_of (spelled text at word) ≡ None))
    ⊎ ((wants_name context ≡ true) × EndsWanted text context word end
    × ((end ≡ name → ⊥) ⊎ ((k : Keyword) × (keyword_of (spelled text at end) ≡ Some k))))

pub record IsMethodWord (text : List ℕ) (at : ℕ) (context : Context) (bytes : List ℕ) (end : ℕ) : Type 0 where
  pub name : ℕ
  pub word : ℕ
  pub read : WordAt text at name word
  pub no_label : IsColon text word → ⊥
  pub only : IsOnlyMethod text at context name word end
  pub bytes_are : bytes ≡ spelled text at end

-- A name with a byte past ASCII: after the longest name, or at its place, stands such a byte, and it goes on as far as
-- name bytes and bytes past ASCII do.
pub record IsWideName (text : List ℕ) (at end : ℕ) : Type 0 where
  pub from : ℕ
  pub begins : (from ≡ at) ⊎ IsLongest (IsName text at) from
  pub wide : is_wide (slice_index text from) ≡ true
  pub rest : IsLongest (IsRun is_wide_name_byte text (from + 1)) end
