-- An instruction, as contracts see it.
use Rattle.std.specs.Prelude.{Bool, false}
use Rattle.rite_code.specs.declared.operation.Operation.{Operation}

pub record Instruction : Type 0 where
  pub wide : Bool
  pub operation : Operation

abbrev pub instruction : Bool → Operation → Instruction
instruction w o = record { wide = w; operation = o }

abbrev pub narrow : Operation → Instruction
narrow o = record { wide = false; operation = o }
