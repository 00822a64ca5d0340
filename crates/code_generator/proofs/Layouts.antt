-- The layout of code that has these instructions.
use Rattle.std.proofs.Common.{◌≡◌, ℕ, zero, suc, ◌+◌, ◌≤◌, List, [], ◌∷◌, refl, ◌∙◌, ap, arith, length, Option, None}
use Rattle.std.proofs.lemmas.List.{drop_all}
use Rattle.rite_code.specs.Code.{Program}
use Rattle.rite_code.specs.declared.operation.Operation.{Operation}
use Rattle.rite_code.specs.Instruction.{Instruction, narrow}
use Rattle.rite_code.specs.Shape.{size_of}
use Rattle.rite_code.specs.Spelling.{decode, decode_wide_at, front, placed}
use Rattle.path_turns.specs.State.{body_at}
use Rattle.path_turns.specs.Turn.{fetch}
use Rattle.code_outline.specs.Layout.{Standing, begun, standings, layout, end_of}
use Rattle.code_generator.proofs.Pieces.{HasAt, total}

-- instructions from a place on, each with its place
abbrev pub placed_from : ℕ → List Operation → List Standing
placed_from at [] = []
placed_from at (i ∷ is) = record { at = at; next = at + size_of i; instruction = narrow i } ∷ placed_from
    (at + size_of i) is

-- nothing can be read at the end
read_past : (code : List ℕ) (at : ℕ) → length code ≤ at → decode 2 code at ≡ None
unfolding decode_wide_at front
read_past code at h = ap (λ (bytes : List ℕ). placed at (front bytes)) (drop_all at code h)

laid_out : (p : Program) (b most at : ℕ) (is : List Operation) → HasAt p b at is
    → length (body_at p b).code ≡ at + total is → length is ≤ most
    → standings most 2 (body_at p b).code at ≡ placed_from at is
unfolding standings fetch
laid_out p b zero at [] has size enough = refl
laid_out p b zero at (i ∷ is) has size enough = absurd (omega (arith, enough))
laid_out p b (suc most) at [] has size enough =
    ap (λ (found : Option (Instruction × ℕ)). begun at found (standings most 2 (body_at p b).code))
    (read_past (body_at p b).code at (omega (arith, size)))
laid_out p b (suc most) at (i ∷ is) has size enough =
    ap (λ (found : Option (Instruction × ℕ)). begun at found (standings most 2 (body_at p b).code)) has.0
    ∙ ap (λ (ss : List Standing). record { at = at; next = at + size_of i; instruction = narrow i } ∷ ss)
    (laid_out p b most (at + size_of i) is has.1 (omega (arith, size)) (omega (arith, enough)))

short : (is : List Operation) → length is ≤ total is
short [] = omega arith
short (i ∷ is) = omega (arith, short is)

pub layout_is : (p : Program) (b : ℕ) (is : List Operation) → HasAt p b 0 is → length (body_at p b).code ≡ total is
    → layout 2 (body_at p b).code ≡ placed_from 0 is
unfolding layout
layout_is p b is has size = laid_out p b (length (body_at p b).code) 0 is has (omega (arith, size))
    (omega (arith, size, short is))

pub end_is : (at : ℕ) (is : List Operation) → end_of at (placed_from at is) ≡ at + total is
unfolding end_of
end_is at [] = omega arith
end_is at (i ∷ is) = end_is (at + size_of i) is ∙ omega arith
