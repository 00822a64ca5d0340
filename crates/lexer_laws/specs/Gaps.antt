-- What stands between tokens: white space, comments and the ends of lines that are no tokens.
use Rattle.std.specs.Prelude.{◌≡◌, ℕ, ◌+◌, ◌-◌, ◌<◌, ◌≤◌, ◌⊎◌, Bool, true, false, not, ◌==◌, List, codes, length, slice_index}
use Rattle.lexer_tables.specs.ByteClass.{is_blank, is_name_start}
use Rattle.lexer_tables.specs.Following.{can_end}
use Rattle.lexer_tables.specs.Marks.{operator_name}
use Rattle.lexer_steps.specs.Scan.{is_comment_byte}
use Rattle.lexer_laws.specs.Longest.{IsLongest, IsRun, Stands}
use Rattle.lexer_laws.specs.Place.{Place, spaced_to, lined_to}

-- all the space, tabs and carriage returns at a place
pub record IsBlanks (text : List ℕ) (at end : ℕ) : Type 0 where
  pub some : at < end
  pub run : IsLongest (IsRun is_blank text at) end

-- # and what follows on its line; a zero byte is no part of it
pub record IsComment (text : List ℕ) (at end : ℕ) : Type 0 where
  pub hash : slice_index text at ≡ 35
  pub rest : IsLongest (IsRun is_comment_byte text (at + 1)) end

abbrev pub is_line_byte : ℕ → Bool
is_line_byte b = not (b == 10)

-- the rest of a line ends after its newline, or at the text's end
pub record IsLine (text : List ℕ) (at end : ℕ) : Type 0 where
  pub last : ℕ
  pub rest : IsLongest (IsRun is_line_byte text at) last
  pub ends : ((last ≡ length text) × (end ≡ last)) ⊎ ((last < length text) × (end ≡ last + 1))

abbrev pub BeginsLine : List ℕ → ℕ → Type 0
BeginsLine text at = (at ≡ 0) ⊎ (slice_index text (at - 1) ≡ 10)

-- a line after a place begins =end
pub record EndsBlock (text : List ℕ) (at line : ℕ) : Type 0 where
  pub behind : at < line
  pub begins : BeginsLine text line
  pub word : Stands text line (codes "=end")

-- lines from one that begins =begin to the first that begins =end
pub record IsBlock (text : List ℕ) (at end : ℕ) : Type 0 where
  pub begins : BeginsLine text at
  pub word : Stands text at (codes "=begin")
  pub line : ℕ
  pub ends : EndsBlock text at line
  pub first : (other : ℕ) → EndsBlock text at other → line ≤ other
  pub rest : IsLine text line end

-- one of these, or a newline
abbrev pub IsPart : List ℕ → ℕ → ℕ → Type 0
IsPart text at end =
    IsBlanks text at end ⊎ (IsComment text at end ⊎ (IsBlock text at end
    ⊎ ((slice_index text at ≡ 10) × (end ≡ at + 1))))

pub data IsBetween (text : List ℕ) : ℕ → ℕ → Type 0 where
  Here : (at : ℕ) → IsBetween text at at
  Part : (at next end : ℕ) → IsPart text at next → IsBetween text next end → IsBetween text at end

-- a name, or that of an operator's method
abbrev pub BeginsName : List ℕ → ℕ → Type 0
BeginsName text at =
    (is_name_start (slice_index text at) ≡ true)
    ⊎ (0 < operator_name (slice_index text at) (slice_index text (at + 1)) (slice_index text (at + 2)))

-- the next token is a single dot, and the one behind it a name
pub record LeadsDot (text : List ℕ) (at dot : ℕ) : Type 0 where
  pub between : IsBetween text at dot
  pub dot_there : slice_index text dot ≡ 46
  pub place : ℕ
  pub behind : IsBetween text (dot + 1) place
  pub name : BeginsName text place

-- a newline is dropped where the token before can't end a statement, and up to a dot that leads a line
pub record DropsNewline (text : List ℕ) (p q : Place) : Type 0 where
  pub newline : slice_index text p.at ≡ 10
  pub dropped : ((can_end p.context ≡ false) × (q ≡ lined_to p (p.at + 1)))
      ⊎ ((can_end p.context ≡ true) × (LeadsDot text (p.at + 1) q.at × (q ≡ lined_to p q.at)))

-- a newline is a token elsewhere
pub record IsNewline (text : List ℕ) (p : Place) (end : ℕ) : Type 0 where
  pub newline : slice_index text p.at ≡ 10
  pub ends_statement : can_end p.context ≡ true
  pub no_dot : (dot : ℕ) → LeadsDot text (p.at + 1) dot → ⊥
  pub ends : end ≡ p.at + 1

-- a backslash before a newline is white space with it
pub record ContinuesLine (text : List ℕ) (at end : ℕ) : Type 0 where
  pub backslash : slice_index text at ≡ 92
  pub newline : slice_index text (at + 1) ≡ 10
  pub ends : end ≡ at + 2

-- from one place to another stands no token
abbrev pub IsGap : List ℕ → Place → Place → Type 0
IsGap text p q =
    ((IsBlanks text p.at q.at ⊎ IsComment text p.at q.at) × (q ≡ spaced_to p q.at))
    ⊎ (((IsBlock text p.at q.at ⊎ ContinuesLine text p.at q.at) × (q ≡ lined_to p q.at))
    ⊎ DropsNewline text p q)
