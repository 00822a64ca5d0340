-- Pieces of a body's code: instructions with the numbers of those that they jump to, entries of the catch table, and
-- the bodies that the instructions make.
use Rattle.std.specs.Prelude.{ℕ, ◌+◌, List, [], ◌∷◌, ◌++◌, length, Bool}
use Rattle.rite_code.specs.declared.operation.Operation.{Operation}
use Rattle.rite_code.specs.declared.code.Irep.{Irep}
use Rattle.gen_parts.specs.declared.line.Line.{Line}
use Rattle.gen_parts.specs.declared.line.Line.TheVariants as line
use Rattle.gen_parts.specs.declared.line.Catch.{Catch}
use Rattle.gen_parts.specs.declared.emitter.Spot.{Spot}

pub record Piece : Type 0 where
  pub lines : List Line
  pub catches : List Catch
  -- the numbers of the bodies that its instructions make, and all bodies from the first of them on, depth first
  pub children : List ℕ
  pub bodies : List Irep

unfoldable pub past : Spot → Piece → Spot
past s p = record {
  line = s.line + length p.lines;
  child = s.child + length p.children;
  body = s.body + length p.bodies;
}

-- past one line
unfoldable pub behind : Spot → Spot
behind s = record { line = s.line + 1; child = s.child; body = s.body }

unfoldable pub nothing : Piece
nothing = record { lines = []; catches = []; children = []; bodies = [] }

-- one piece after the other
unfoldable pub both : Piece → Piece → Piece
both p q = record {
  lines = p.lines ++ q.lines;
  catches = p.catches ++ q.catches;
  children = p.children ++ q.children;
  bodies = p.bodies ++ q.bodies;
}

infixr 30 ◌⊕◌
abbrev pub ◌⊕◌ : Piece → Piece → Piece
p ⊕ q = both p q

unfoldable pub puts : Line → Piece
puts l = record { lines = l ∷ []; catches = []; children = []; bodies = [] }

abbrev pub does : Operation → Piece
does o = puts (line.Does o)

abbrev pub jump : ℕ → Piece
jump to = puts (line.Jump to)

abbrev pub jump_if : ℕ → ℕ → Piece
jump_if r to = puts (line.JumpIf r to)

abbrev pub jump_not : ℕ → ℕ → Piece
jump_not r to = puts (line.JumpNot r to)

-- a jump through the ensure parts in between
abbrev pub leave : ℕ → Piece
leave to = puts (line.Leave to)

-- an instruction that makes a body: its number, and the body with those in it
unfoldable pub makes : Operation → ℕ → List Irep → Piece
makes o n bodies = record { lines = line.Does o ∷ []; catches = []; children = n ∷ []; bodies = bodies }

-- an entry of the catch table stands before those of the parts that it covers, since the last one wins
unfoldable pub catches : Catch → Piece
catches c = record { lines = []; catches = c ∷ []; children = []; bodies = [] }

abbrev pub catches_in : Bool → ℕ → ℕ → ℕ → Piece
catches_in is_rescue begin end target =
    catches (record { rescue = is_rescue; begin = begin; end = end; target = target })
