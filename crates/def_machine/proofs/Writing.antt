-- Instructions as the bytes of a body.
use Rattle.std.specs.Prelude.{ℕ, List, map}
use Rattle.rite_code.specs.Instruction.{narrow}
use Rattle.rite_code.specs.declared.operation.Operation.{Operation}
use Rattle.rite_code.specs.Spelling.{encodings}

abbrev pub bytes : List Operation → List ℕ
bytes os = encodings (map narrow os)
