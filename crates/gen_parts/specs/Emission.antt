-- What an emitter has taken, and what it takes next.
use Rattle.std.specs.Prelude.{ℕ, ◌+◌, List, [], ◌∷◌, length, slice_set}
use Rattle.gen_parts.specs.declared.line.Line.{Line}
use Rattle.gen_parts.specs.declared.line.Line.TheVariants as line
use Rattle.gen_parts.specs.declared.line.Catch.{Catch}
use Rattle.gen_parts.specs.declared.emitter.Held.{Held}
use Rattle.gen_parts.specs.declared.emitter.Held.TheVariants as held
use Rattle.gen_parts.specs.declared.emitter.Spot.{Spot}
use Rattle.gen_parts.specs.Pieces.{Piece, nothing, ◌⊕◌}

pub record Emission : Type 0 where
  pub first_body : ℕ
  pub piece : Piece

unfoldable pub empty : ℕ → Emission
empty n = record { first_body = n; piece = nothing }

unfoldable pub with_piece : Emission → Piece → Emission
with_piece e p = record { first_body = e.first_body; piece = e.piece ⊕ p }

-- the spot of the next line
unfoldable pub here : Emission → Spot
here e = record {
  line = length e.piece.lines;
  child = length e.piece.children;
  body = e.first_body + length e.piece.bodies;
}

-- with another line, and another entry of the catch table
unfoldable pub patched : Emission → ℕ → Line → Emission
patched e n l = record e { piece = record e.piece { lines = slice_set e.piece.lines n l } }

unfoldable pub caught : Emission → ℕ → Catch → Emission
caught e n c = record e { piece = record e.piece { catches = slice_set e.piece.catches n c } }

unfoldable pub catch_count : Emission → ℕ
catch_count e = length e.piece.catches

abbrev pub line_by : Held → ℕ → Line
line_by held.Jump to = line.Jump to
line_by (held.JumpIf r) to = line.JumpIf r to
line_by (held.JumpNot r) to = line.JumpNot r to

-- with the same line in several places
abbrev pub all_patched : Emission → List ℕ → Line → Emission
all_patched e [] l = e
all_patched e (n ∷ ns) l = all_patched (patched e n l) ns l

-- with jumps to these lines in the places from one on
abbrev pub led : Emission → ℕ → List ℕ → Emission
led e n [] = e
led e n (to ∷ tos) = led (patched e n (line.Jump to)) (n + 1) tos
