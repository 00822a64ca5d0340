-- A body of a file from the pieces of its code.
use Rattle.std.specs.Prelude.{ℕ, ℤ, pos, ◌+◌, ◌-ℤ◌, List, [], ◌∷◌, map, get_or, Bool, true, false, not}
use Rattle.rite_code.specs.declared.operation.Operation.{Operation}
use Rattle.rite_code.specs.declared.operation.Operation.TheVariants as op
use Rattle.rite_code.specs.declared.code.Irep.{Irep}
use Rattle.rite_code.specs.declared.code.CatchEntry.{CatchEntry}
use Rattle.rite_code.specs.declared.code.PoolItem.{PoolItem}
use Rattle.rite_code.specs.Instruction.{Instruction, instruction}
use Rattle.rite_code.specs.Operation.{opcode_in}
use Rattle.rite_code.specs.Table.{shape_of}
use Rattle.rite_code.specs.Shape.{fits_as, operand_size}
use Rattle.rite_code.specs.Spelling.{encodings}
use Rattle.gen_parts.specs.declared.line.Line.{Line}
use Rattle.gen_parts.specs.declared.line.Line.TheVariants as line
use Rattle.gen_parts.specs.declared.line.Catch.{Catch}
use Rattle.gen_parts.specs.declared.assembling.Head.{Head}
use Rattle.gen_parts.specs.Pieces.{Piece}

-- An instruction is wide where its operands need it. The jumps of a body are all wide or none.
abbrev pub shortest : Operation → Instruction
shortest o = instruction (not (fits_as false o)) o

-- the instruction of a line, for a jump that goes so far
abbrev pub instruction_by : Bool → ℤ → Line → Instruction
instruction_by wide by (line.Does o) = shortest o
instruction_by wide by (line.Jump to) = instruction wide (op.Jmp by)
instruction_by wide by (line.JumpIf r to) = instruction wide (op.JmpIf r by)
instruction_by wide by (line.JumpNot r to) = instruction wide (op.JmpNot r by)
instruction_by wide by (line.Leave to) = instruction wide (op.JmpUw by)

-- how many bytes it takes: its opcode, and EXT before it where it is wide
abbrev pub prefix : Bool → ℕ
prefix false = 1
prefix true = 2

abbrev pub size_of : Instruction → ℕ
size_of i = prefix i.wide + operand_size i.wide (shape_of (opcode_in i.operation))

abbrev pub size : Bool → Line → ℕ
size wide l = size_of (instruction_by wide (pos 0) l)

-- the places of the lines from one on, and the place after the last
abbrev pub places : Bool → ℕ → List Line → List ℕ
places wide at [] = at ∷ []
places wide at (l ∷ ls) = at ∷ places wide (at + size wide l) ls

abbrev pub target_of : Line → ℕ
target_of (line.Does o) = 0
target_of (line.Jump to) = to
target_of (line.JumpIf r to) = to
target_of (line.JumpNot r to) = to
target_of (line.Leave to) = to

abbrev pub place_of : List ℕ → ℕ → ℕ
place_of at n = get_or at n 0

-- a distance counts from the place of the next instruction
abbrev pub distance : List ℕ → ℕ → Line → ℤ
distance at next l = pos (place_of at (target_of l)) -ℤ pos next

-- the instruction of a line, before the one at that place
unfoldable pub instruction_before : Bool → List ℕ → ℕ → Line → Instruction
instruction_before wide at next l = instruction_by wide (distance at next l) l

abbrev pub instructions : Bool → List ℕ → ℕ → List Line → List Instruction
instructions wide at here [] = []
instructions wide at here (l ∷ ls) =
    instruction_before wide at (here + size wide l) l ∷ instructions wide at (here + size wide l) ls

abbrev pub entry_by : List ℕ → Catch → CatchEntry
entry_by at c = record {
  rescue = c.rescue;
  begin = place_of at c.begin;
  end = place_of at c.end;
  target = place_of at c.target;
}

-- the body, and the bodies in it
unfoldable pub assembled : Head → List PoolItem → List (List ℕ) → Piece → List Irep
assembled head pool symbols p =
    let at = places head.wide 0 p.lines in
    record {
      locals = head.locals;
      registers = head.registers;
      code = encodings (instructions head.wide at 0 p.lines);
      catches = map (entry_by at) p.catches;
      pool = pool;
      symbols = symbols;
      children = p.children;
    } ∷ p.bodies
