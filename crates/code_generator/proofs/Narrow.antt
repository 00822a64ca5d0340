-- The narrow instructions of operations.
use Rattle.std.proofs.Common.{◌≡◌, List, [], ◌∷◌, ◌++◌, map, false, refl, ap, ◌∙◌}
use Rattle.rite_code.specs.Instruction.{Instruction, narrow}
use Rattle.code_generator.specs.Narrow.{operations_in, AreNarrow}

pub are_narrow_push : (is : List Instruction) (i : Instruction) → AreNarrow is → i.wide ≡ false
    → AreNarrow (is ++ i ∷ [])
are_narrow_push [] i a w = (w, tt)
are_narrow_push (j ∷ is) i a w = (a.0, are_narrow_push is i a.1 w)

one_narrow : (i : Instruction) → i.wide ≡ false → i ≡ narrow i.operation
one_narrow i w = ap (λ b. let j : Instruction = record { wide = b; operation = i.operation } in j) w

pub narrow_operations : (is : List Instruction) → AreNarrow is → is ≡ map narrow (operations_in is)
narrow_operations [] a = refl
narrow_operations (i ∷ is) a = ap (λ j. j ∷ is) (one_narrow i a.0)
    ∙ ap (λ l. narrow i.operation ∷ l) (narrow_operations is a.1)
