-- What was read so far.
use Rattle.std.specs.Prelude.{ℕ, ◌+◌, ◌-◌, List, [], ◌∷◌, ◌++◌, length, take, ◌==◌, Bool, true, false, if◌then◌else◌, Option, slice_get}
use Rattle.rb_syntax.specs.declared.keyword.Keyword.{Keyword}
use Rattle.rb_syntax.specs.declared.token.Token.{Token}
use Rattle.rb_syntax.specs.declared.token.TokenKind.{TokenKind}
use Rattle.rb_syntax.specs.declared.token.TokenKind.TheVariants as kinds
use Rattle.lexer_tables.specs.declared.context.Context.{Context}
use Rattle.lexer_tables.specs.declared.context.Context.TheVariants as contexts
use Rattle.lexer_tables.specs.Following.{expects_value, expects_value_at, after_keyword}
use Rattle.lexer_steps.specs.declared.mode.Mode.{Mode}
use Rattle.lexer_steps.specs.declared.mode.Mode.TheVariants.{Interpolation}
use Rattle.lexer_steps.specs.declared.state.Lexer.{Lexer}

pub record State : Type 0 where
  pub tokens : List Token
  -- what the place is inside of, the innermost last
  pub modes : List Mode
  pub context : Context
  -- white space stands directly before the place
  pub space : Bool
  -- no token stands before the place on its line
  pub fresh : Bool
  -- the parameters of a block are open
  pub bars : Bool
  -- how many interpolations are open
  pub inside : ℕ
  -- the bytes of a literal that are no token yet, and where they begin
  pub piece : List ℕ
  pub piece_at : ℕ

abbrev pub state_of : Lexer → State
state_of l = record {
  tokens = l.tokens.items;
  modes = l.modes.items;
  context = l.context;
  space = l.space;
  fresh = l.fresh;
  bars = l.bars;
  inside = l.inside;
  piece = l.piece.items;
  piece_at = l.piece_at;
}

abbrev pub opening : State
opening = record {
  tokens = [];
  modes = [];
  context = contexts.Start;
  space = false;
  fresh = true;
  bars = false;
  inside = 0;
  piece = [];
  piece_at = 0;
}

abbrev pub pushed_as : State → ℕ → TokenKind → Bool → Context → State
pushed_as s at kind value next = record s {
  tokens = s.tokens ++ record {
    kind = kind;
    at = at;
    space = s.space;
    line_start = s.fresh;
    value = value;
  } ∷ [];
  context = next;
  space = false;
  fresh = false;
}

-- one token more
abbrev pub pushed : State → ℕ → TokenKind → Context → State
pushed s at kind next = pushed_as s at kind (expects_value s.context) next

abbrev pub with_keyword : State → ℕ → Keyword → State
with_keyword s at k = pushed_as s at (kinds.Keyword k) (expects_value_at s.context k) (after_keyword k)

abbrev pub spaced : State → State
spaced s = record s { space = true }

abbrev pub lined : State → State
lined s = record s { space = true; fresh = true }

abbrev pub entered : State → Mode → State
entered s mode = record s { modes = s.modes ++ mode ∷ [] }

abbrev pub left : State → State
left s = record s { modes = take (length s.modes - 1) s.modes }

abbrev pub top : State → Option Mode
top s = slice_get s.modes (length s.modes - 1)

abbrev pub interpolating : State → State
interpolating s = record (entered s Interpolation) { inside = s.inside + 1 }

abbrev pub interpolated : State → State
interpolated s = record (left s) { inside = s.inside - 1 }

-- one byte more of the literal, which stands at a place
abbrev pub appended : State → ℕ → ℕ → State
appended s at byte = record s {
  piece = s.piece ++ byte ∷ [];
  piece_at = if length s.piece == 0 then at else s.piece_at;
}

-- some bytes more
abbrev pub extended : State → ℕ → List ℕ → State
extended s at bytes = record s { piece = s.piece ++ bytes; piece_at = if length s.piece == 0 then at else s.piece_at }

-- no bytes of a literal are left
abbrev pub emptied : State → State
emptied s = record s { piece = [] }

-- the bytes of the literal so far are a token
abbrev pub flushed : State → State
flushed s =
    if length s.piece == 0 then s
    else emptied (pushed s s.piece_at (kinds.Piece s.piece) contexts.Operand)

-- the bytes of a list's element so far are a token
abbrev pub flushed_word : State → State
flushed_word s =
    if length s.piece == 0 then s
    else emptied (pushed s s.piece_at (kinds.Word s.piece) contexts.Operand)
