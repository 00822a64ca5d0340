-- Names: a letter or _ and what goes on after it, and the mark that a name takes.
use Rattle.std.specs.Prelude.{◌≡◌, ℕ, ◌+◌, ◌⊎◌, true, List, slice_index}
use Rattle.lexer_tables.specs.ByteClass.{is_name_start, is_name_byte}
use Rattle.lexer_laws.specs.Longest.{IsRun}

-- a letter or _, and letters, digits and _
pub record IsName (text : List ℕ) (at end : ℕ) : Type 0 where
  pub begins : is_name_start (slice_index text at) ≡ true
  pub goes_on : IsRun is_name_byte text (at + 1) end

-- a ? or ! is taken by the name before it where no = follows it, and where == or => follows it
pub record TakesMark (text : List ℕ) (at : ℕ) : Type 0 where
  pub mark : (slice_index text at ≡ 63) ⊎ (slice_index text at ≡ 33)
  pub follows : (slice_index text (at + 1) ≡ 61 → ⊥) ⊎ ((slice_index text (at + 2) ≡ 61)
      ⊎ (slice_index text (at + 2) ≡ 62))

-- a name, or one with the mark that it takes
abbrev pub IsWord : List ℕ → ℕ → ℕ → Type 0
IsWord text at end = IsName text at end ⊎ ((last : ℕ) × IsName text at last × TakesMark text last × (end ≡ last + 1))

-- @ or $ and a name directly after it
pub record IsVariable (sigil : ℕ) (text : List ℕ) (at end : ℕ) : Type 0 where
  pub sigil_there : slice_index text at ≡ sigil
  pub name : IsName text (at + 1) end
