-- What the instruction of a frame may rely on.
use Rattle.std.specs.Prelude.{◌≡◌, ◌<◌, ◌≤◌, ℕ, ◌+◌, length, Some, slice_get}
use Rattle.rite_code.specs.Code.{Program}
use Rattle.rite_code.specs.Instruction.{Instruction}
use Rattle.code_verifier.specs.Needs.{registers_of, Variable, variable_of}
use Rattle.code_instructions.specs.declared.instruction.Instruction.{Instruction as Indexed}
use Rattle.code_instructions.specs.Fine.{IsFine}
use Rattle.code_instructions.specs.Indexed.{index_in, instructions_of}
use Rattle.def_machine.specs.State.{Frame, Memory, body_at, list_at, list_out}
use Rattle.def_machine.specs.Turn.{fetch}

-- the variable of a body further out is a register of a list that is there
pub record ReachesVariable (m : Memory) (f : Frame) (v : Variable) : Type 0 where
  pub list : list_out (v.between + 1) m.lists f.list < length m.lists
  pub register : v.register < length (list_at m.lists (list_out (v.between + 1) m.lists f.list)).slots

-- the frame stands at an instruction; its list is there and has the registers that the instruction reads and writes;
-- and the variable that it names is reached
pub record StandsAt (p : Program) (m : Memory) (f : Frame) : Type 0 where
  pub instruction : Instruction
  pub next : ℕ
  pub read : fetch p f.body f.place ≡ Some (instruction, next)
  pub list : f.list < length m.lists
  pub registers : registers_of instruction.operation ≤ length (list_at m.lists f.list).slots
  pub variable : (v : Variable) → variable_of instruction.operation ≡ Some v → ReachesVariable m f v

-- the same by indices: the frame stands at the instruction of this index of its body, of which all is known that the
-- verifier shows
pub record StandsAtIndex (p : Program) (f : Frame) : Type 0 where
  pub index : ℕ
  pub instruction : Indexed
  pub place : index_in p.version (body_at p f.body).code f.place ≡ Some index
  pub stands : slice_get (instructions_of p (body_at p f.body)) index ≡ Some instruction
  pub fine : IsFine p f.body (body_at p f.body) (instructions_of p (body_at p f.body)) index instruction
