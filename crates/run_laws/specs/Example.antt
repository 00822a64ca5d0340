-- A program that isn't verified: its body has no instruction.
use Rattle.std.specs.Prelude.{[], ◌∷◌}
use Rattle.rite_code.specs.Code.{Program, program}

abbrev pub empty : Program
empty = program 2
    ((record {
      locals = 1;
      registers = 1;
      code = [];
      catches = [];
      pool = [];
      symbols = [];
      children = [];
    })
    ∷ [])
