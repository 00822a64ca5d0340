-- What an instruction needs: registers, entries of the pool, symbols, children, places.
use Rattle.std.specs.Prelude.{ℕ, ◌+◌, ◌*◌, max, ℤ, List, [], ◌∷◌, Bool, true, false, Option, Some, None, nat_eq, nat_lt, if◌then◌else◌}
use Rattle.rite_code.specs.declared.operation.Parameters.{Parameters}
use Rattle.rite_code.specs.declared.operation.Operation.{Operation}
use Rattle.rite_code.specs.declared.operation.Operation.TheVariants as operation

-- the registers that hold the arguments of a call with this operand: 255 stands for one Array of them
abbrev pub arguments : ℕ → ℕ
arguments c = if nat_eq c 255 then 1 else c

-- in a call on self 254 stands for a bare name, which has none
abbrev pub self_arguments : ℕ → ℕ
self_arguments c = if nat_eq c 254 then 0 else arguments c

-- how many registers a body has at least where the instruction reads and writes those that it names
abbrev pub registers_of : Operation → ℕ
registers_of (operation.Move a b) = max (a + 1) (b + 1)
registers_of (operation.LoadL a b) = a + 1
registers_of (operation.LoadI a b) = a + 1
registers_of (operation.LoadI16 a b) = a + 1
registers_of (operation.LoadI32 a b) = a + 1
registers_of (operation.LoadSym a b) = a + 1
registers_of (operation.LoadNil a) = a + 1
registers_of (operation.LoadSelf a) = a + 1
registers_of (operation.LoadT a) = a + 1
registers_of (operation.LoadF a) = a + 1
registers_of (operation.GetGv a b) = a + 1
registers_of (operation.SetGv a b) = a + 1
registers_of (operation.GetIv a b) = a + 1
registers_of (operation.SetIv a b) = a + 1
registers_of (operation.GetConst a b) = a + 1
registers_of (operation.SetConst a b) = a + 1
registers_of (operation.GetMCnst a b) = a + 1
registers_of (operation.SetMCnst a b) = a + 2
registers_of (operation.GetUpVar a b c) = a + 1
registers_of (operation.SetUpVar a b c) = a + 1
registers_of (operation.JmpIf a by) = a + 1
registers_of (operation.JmpNot a by) = a + 1
registers_of (operation.Except a) = a + 1
registers_of (operation.Rescue a b) = max (a + 1) (b + 1)
registers_of (operation.RaiseIf a) = a + 1
registers_of (operation.SSend a b c) = a + 1 + self_arguments c
registers_of (operation.SSendB a b c) = a + 2 + arguments c
registers_of (operation.Send a b c) = a + 1 + arguments c
registers_of (operation.SendB a b c) = a + 2 + arguments c
registers_of (operation.Call a b) = a + 1 + arguments b
registers_of (operation.Super a b) = a + 2 + arguments b
registers_of (operation.BlkPush a) = a + 1
registers_of (operation.Return a) = a + 1
registers_of (operation.ReturnBlk a) = a + 1
registers_of (operation.Break a) = a + 1
registers_of (operation.Add a) = a + 2
registers_of (operation.Sub a) = a + 2
registers_of (operation.Mul a) = a + 2
registers_of (operation.Div a) = a + 2
registers_of (operation.Eq a) = a + 2
registers_of (operation.Lt a) = a + 2
registers_of (operation.Le a) = a + 2
registers_of (operation.Gt a) = a + 2
registers_of (operation.Ge a) = a + 2
registers_of (operation.Array a b) = max (a + 1) (a + b)
registers_of (operation.AryPush a b) = a + 1 + b
registers_of (operation.AryCat a) = a + 2
registers_of (operation.ARef a b c) = max (a + 1) (b + 1)
registers_of (operation.APost a b c) = a + 1
registers_of (operation.Intern a) = a + 1
registers_of (operation.String a b) = a + 1
registers_of (operation.StrCat a) = a + 2
registers_of (operation.Hash a b) = max (a + 1) (a + 2 * b)
registers_of (operation.HashAdd a b) = a + 1 + 2 * b
registers_of (operation.Lambda a b) = a + 1
registers_of (operation.Block a b) = a + 1
registers_of (operation.RangeInc a) = a + 2
registers_of (operation.RangeExc a) = a + 2
registers_of (operation.OClass a b) = a + 1
registers_of (operation.Class a b) = a + 2
registers_of (operation.Module a b) = a + 1
registers_of (operation.Exec a b) = a + 1
registers_of (operation.Def a b c) = a + 1
registers_of (operation.SClass a) = a + 1
registers_of (operation.TClass a) = a + 1
registers_of (operation.Defined a b c) = a + 1
registers_of o = 0

-- the indices of its symbols
abbrev pub symbols_of : Operation → List ℕ
symbols_of (operation.LoadSym a b) = b ∷ []
symbols_of (operation.GetGv a b) = b ∷ []
symbols_of (operation.SetGv a b) = b ∷ []
symbols_of (operation.GetIv a b) = b ∷ []
symbols_of (operation.SetIv a b) = b ∷ []
symbols_of (operation.GetConst a b) = b ∷ []
symbols_of (operation.SetConst a b) = b ∷ []
symbols_of (operation.GetMCnst a b) = b ∷ []
symbols_of (operation.SetMCnst a b) = b ∷ []
symbols_of (operation.SSend a b c) = b ∷ []
symbols_of (operation.SSendB a b c) = b ∷ []
symbols_of (operation.Send a b c) = b ∷ []
symbols_of (operation.SendB a b c) = b ∷ []
symbols_of (operation.Class a b) = b ∷ []
symbols_of (operation.Module a b) = b ∷ []
symbols_of (operation.Def a b c) = b ∷ []
symbols_of (operation.Alias a b) = a ∷ b ∷ []
symbols_of (operation.Undef a) = a ∷ []
symbols_of (operation.Defined a b c) = if nat_lt b 6 then c ∷ [] else []
symbols_of o = []

-- an entry of the pool: of an integer, or of a text
pub data Entry : Type 0 where
  integer : ℕ → Entry
  text : ℕ → Entry

abbrev pub entry_of : Operation → Option Entry
entry_of (operation.LoadL a b) = Some (integer b)
entry_of (operation.String a b) = Some (text b)
entry_of o = None

-- how far a jump goes from the next instruction
abbrev pub distance_of : Operation → Option ℤ
distance_of (operation.Jmp by) = Some by
distance_of (operation.JmpIf a by) = Some by
distance_of (operation.JmpNot a by) = Some by
distance_of (operation.JmpUw by) = Some by
distance_of o = None

-- a variable of a body further out: its register, and how many bodies lie between
pub record Variable : Type 0 where
  pub register : ℕ
  pub between : ℕ

abbrev pub variable_of : Operation → Option Variable
variable_of (operation.GetUpVar a b c) = Some (record { register = b; between = c })
variable_of (operation.SetUpVar a b c) = Some (record { register = b; between = c })
variable_of o = None

-- the count of arguments, where it may be the sign of a bare name or of an Array
abbrev pub count_of : Operation → ℕ
count_of (operation.SSend a b c) = c
count_of (operation.SSendB a b c) = c
count_of (operation.Send a b c) = c
count_of (operation.SendB a b c) = c
count_of (operation.Call a b) = b
count_of (operation.Super a b) = b
count_of o = 0

-- whether control goes on elsewhere
abbrev pub leaves : Operation → Bool
leaves (operation.Jmp by) = true
leaves (operation.JmpUw by) = true
leaves (operation.Return a) = true
leaves (operation.ReturnBlk a) = true
leaves (operation.Break a) = true
leaves operation.Stop = true
leaves o = false

abbrev pub is_jump : Operation → Bool
is_jump (operation.Jmp by) = true
is_jump o = false

abbrev pub parameters_of : Operation → Option Parameters
parameters_of (operation.Enter q) = Some q
parameters_of o = None
