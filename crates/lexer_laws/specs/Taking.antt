-- The lexer's state and the place that it stands for.
use Rattle.std.specs.Prelude.{ℕ, [], ◌∷◌, ◌++◌}
use Rattle.rb_syntax.specs.declared.token.TokenKind.{TokenKind}
use Rattle.lexer_steps.specs.State.{State}
use Rattle.lexer_laws.specs.Place.{Place, after}
use Rattle.lexer_laws.specs.Reads.{token_at, is_newline, bars_after}

abbrev pub place_of : State → ℕ → Place
place_of s at = record { at = at; context = s.context; space = s.space; line_start = s.fresh; bars = s.bars }

-- the state after a token that is read at a place
abbrev pub took : State → ℕ → TokenKind → State
took s at kind = record s {
  tokens = s.tokens ++ token_at (place_of s at) kind ∷ [];
  context = after s.context kind;
  space = is_newline kind;
  fresh = is_newline kind;
  bars = bars_after s.bars kind;
}
