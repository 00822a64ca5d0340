-- Narrow instructions and what they do.
use Rattle.std.specs.Prelude.{◌≡◌, List, [], ◌∷◌, map, false}
use Rattle.rite_code.specs.declared.operation.Operation.{Operation}
use Rattle.rite_code.specs.Instruction.{Instruction}

abbrev pub operations_in : List Instruction → List Operation
operations_in is = map (λ i. i.operation) is

abbrev pub AreNarrow : List Instruction → Type 0
AreNarrow [] = Unit {0}
AreNarrow (i ∷ is) = (i.wide ≡ false) × AreNarrow is
