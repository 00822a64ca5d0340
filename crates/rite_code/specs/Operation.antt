-- Instructions with their operands, and without.
use Rattle.std.specs.Prelude.{ℕ, ℤ, pos, Bool, false}
use Rattle.rite_code.specs.declared.opcode.Opcode.{Opcode}
use Rattle.rite_code.specs.declared.opcode.Opcode.TheVariants as opcode
use Rattle.rite_code.specs.declared.opcode.Shape.{Shape}
use Rattle.rite_code.specs.declared.opcode.Shape.TheVariants.{Z, B, BB, BBB, BBI, S, BS, BSS, W}
use Rattle.rite_code.specs.declared.operation.Parameters.{Parameters}
use Rattle.rite_code.specs.declared.operation.Operands.{Operands}
use Rattle.rite_code.specs.declared.operation.Operation.{Operation}
use Rattle.rite_code.specs.declared.operation.Operation.TheVariants as operation

abbrev pub no_parameters : Parameters
no_parameters = record { required = 0; optional = 0; rest = false; post = 0; block = false; spare = false }

-- operands that are there, with 0 for those that aren't
abbrev pub numbers : ℕ → ℕ → ℕ → Operands
numbers a b c = record { a = a; b = b; c = c; by = pos 0; parameters = no_parameters }

abbrev pub with_signed : ℕ → ℕ → ℤ → Operands
with_signed a b by = record { a = a; b = b; c = 0; by = by; parameters = no_parameters }

abbrev pub with_parameters : Parameters → Operands
with_parameters p = record { a = 0; b = 0; c = 0; by = pos 0; parameters = p }

-- the instruction without its operands
abbrev pub opcode_in : Operation → Opcode
opcode_in operation.Nop = opcode.Nop
opcode_in (operation.Move a b) = opcode.Move
opcode_in (operation.LoadL a b) = opcode.LoadL
opcode_in (operation.LoadI a b) = opcode.LoadI
opcode_in (operation.LoadI16 a b) = opcode.LoadI16
opcode_in (operation.LoadI32 a b) = opcode.LoadI32
opcode_in (operation.LoadSym a b) = opcode.LoadSym
opcode_in (operation.LoadNil a) = opcode.LoadNil
opcode_in (operation.LoadSelf a) = opcode.LoadSelf
opcode_in (operation.LoadT a) = opcode.LoadT
opcode_in (operation.LoadF a) = opcode.LoadF
opcode_in (operation.GetGv a b) = opcode.GetGv
opcode_in (operation.SetGv a b) = opcode.SetGv
opcode_in (operation.GetIv a b) = opcode.GetIv
opcode_in (operation.SetIv a b) = opcode.SetIv
opcode_in (operation.GetConst a b) = opcode.GetConst
opcode_in (operation.SetConst a b) = opcode.SetConst
opcode_in (operation.GetMCnst a b) = opcode.GetMCnst
opcode_in (operation.SetMCnst a b) = opcode.SetMCnst
opcode_in (operation.GetUpVar a b c) = opcode.GetUpVar
opcode_in (operation.SetUpVar a b c) = opcode.SetUpVar
opcode_in (operation.Jmp by) = opcode.Jmp
opcode_in (operation.JmpIf a by) = opcode.JmpIf
opcode_in (operation.JmpNot a by) = opcode.JmpNot
opcode_in (operation.JmpUw by) = opcode.JmpUw
opcode_in (operation.Except a) = opcode.Except
opcode_in (operation.Rescue a b) = opcode.Rescue
opcode_in (operation.RaiseIf a) = opcode.RaiseIf
opcode_in (operation.SSend a b c) = opcode.SSend
opcode_in (operation.SSendB a b c) = opcode.SSendB
opcode_in (operation.Send a b c) = opcode.Send
opcode_in (operation.SendB a b c) = opcode.SendB
opcode_in (operation.Call a b) = opcode.Call
opcode_in (operation.Super a b) = opcode.Super
opcode_in (operation.Enter parameters) = opcode.Enter
opcode_in (operation.BlkPush a) = opcode.BlkPush
opcode_in (operation.Return a) = opcode.Return
opcode_in (operation.ReturnBlk a) = opcode.ReturnBlk
opcode_in (operation.Break a) = opcode.Break
opcode_in (operation.Add a) = opcode.Add
opcode_in (operation.Sub a) = opcode.Sub
opcode_in (operation.Mul a) = opcode.Mul
opcode_in (operation.Div a) = opcode.Div
opcode_in (operation.Eq a) = opcode.Eq
opcode_in (operation.Lt a) = opcode.Lt
opcode_in (operation.Le a) = opcode.Le
opcode_in (operation.Gt a) = opcode.Gt
opcode_in (operation.Ge a) = opcode.Ge
opcode_in (operation.Array a b) = opcode.Array
opcode_in (operation.AryPush a b) = opcode.AryPush
opcode_in (operation.AryCat a) = opcode.AryCat
opcode_in (operation.ARef a b c) = opcode.ARef
opcode_in (operation.APost a b c) = opcode.APost
opcode_in (operation.Intern a) = opcode.Intern
opcode_in (operation.String a b) = opcode.String
opcode_in (operation.StrCat a) = opcode.StrCat
opcode_in (operation.Hash a b) = opcode.Hash
opcode_in (operation.HashAdd a b) = opcode.HashAdd
opcode_in (operation.Lambda a b) = opcode.Lambda
opcode_in (operation.Block a b) = opcode.Block
opcode_in (operation.RangeInc a) = opcode.RangeInc
opcode_in (operation.RangeExc a) = opcode.RangeExc
opcode_in (operation.OClass a b) = opcode.OClass
opcode_in (operation.Class a b) = opcode.Class
opcode_in (operation.Module a b) = opcode.Module
opcode_in (operation.Exec a b) = opcode.Exec
opcode_in (operation.Def a b c) = opcode.Def
opcode_in (operation.Alias a b) = opcode.Alias
opcode_in (operation.Undef a) = opcode.Undef
opcode_in (operation.SClass a) = opcode.SClass
opcode_in (operation.TClass a) = opcode.TClass
opcode_in (operation.Defined a b c) = opcode.Defined
opcode_in operation.Stop = opcode.Stop

-- its operands
abbrev pub operands_in : Operation → Operands
operands_in operation.Nop = numbers 0 0 0
operands_in (operation.Move a b) = numbers a b 0
operands_in (operation.LoadL a b) = numbers a b 0
operands_in (operation.LoadI a b) = numbers a b 0
operands_in (operation.LoadI16 a b) = with_signed a 0 b
operands_in (operation.LoadI32 a b) = with_signed a 0 b
operands_in (operation.LoadSym a b) = numbers a b 0
operands_in (operation.LoadNil a) = numbers a 0 0
operands_in (operation.LoadSelf a) = numbers a 0 0
operands_in (operation.LoadT a) = numbers a 0 0
operands_in (operation.LoadF a) = numbers a 0 0
operands_in (operation.GetGv a b) = numbers a b 0
operands_in (operation.SetGv a b) = numbers a b 0
operands_in (operation.GetIv a b) = numbers a b 0
operands_in (operation.SetIv a b) = numbers a b 0
operands_in (operation.GetConst a b) = numbers a b 0
operands_in (operation.SetConst a b) = numbers a b 0
operands_in (operation.GetMCnst a b) = numbers a b 0
operands_in (operation.SetMCnst a b) = numbers a b 0
operands_in (operation.GetUpVar a b c) = numbers a b c
operands_in (operation.SetUpVar a b c) = numbers a b c
operands_in (operation.Jmp by) = with_signed 0 0 by
operands_in (operation.JmpIf a by) = with_signed a 0 by
operands_in (operation.JmpNot a by) = with_signed a 0 by
operands_in (operation.JmpUw by) = with_signed 0 0 by
operands_in (operation.Except a) = numbers a 0 0
operands_in (operation.Rescue a b) = numbers a b 0
operands_in (operation.RaiseIf a) = numbers a 0 0
operands_in (operation.SSend a b c) = numbers a b c
operands_in (operation.SSendB a b c) = numbers a b c
operands_in (operation.Send a b c) = numbers a b c
operands_in (operation.SendB a b c) = numbers a b c
operands_in (operation.Call a b) = numbers a b 0
operands_in (operation.Super a b) = numbers a b 0
operands_in (operation.Enter parameters) = with_parameters parameters
operands_in (operation.BlkPush a) = numbers a 0 0
operands_in (operation.Return a) = numbers a 0 0
operands_in (operation.ReturnBlk a) = numbers a 0 0
operands_in (operation.Break a) = numbers a 0 0
operands_in (operation.Add a) = numbers a 0 0
operands_in (operation.Sub a) = numbers a 0 0
operands_in (operation.Mul a) = numbers a 0 0
operands_in (operation.Div a) = numbers a 0 0
operands_in (operation.Eq a) = numbers a 0 0
operands_in (operation.Lt a) = numbers a 0 0
operands_in (operation.Le a) = numbers a 0 0
operands_in (operation.Gt a) = numbers a 0 0
operands_in (operation.Ge a) = numbers a 0 0
operands_in (operation.Array a b) = numbers a b 0
operands_in (operation.AryPush a b) = numbers a b 0
operands_in (operation.AryCat a) = numbers a 0 0
operands_in (operation.ARef a b c) = with_signed a b c
operands_in (operation.APost a b c) = with_signed a b c
operands_in (operation.Intern a) = numbers a 0 0
operands_in (operation.String a b) = numbers a b 0
operands_in (operation.StrCat a) = numbers a 0 0
operands_in (operation.Hash a b) = numbers a b 0
operands_in (operation.HashAdd a b) = numbers a b 0
operands_in (operation.Lambda a b) = numbers a b 0
operands_in (operation.Block a b) = numbers a b 0
operands_in (operation.RangeInc a) = numbers a 0 0
operands_in (operation.RangeExc a) = numbers a 0 0
operands_in (operation.OClass a b) = numbers a b 0
operands_in (operation.Class a b) = numbers a b 0
operands_in (operation.Module a b) = numbers a b 0
operands_in (operation.Exec a b) = numbers a b 0
operands_in (operation.Def a b c) = numbers a b c
operands_in (operation.Alias a b) = numbers a b 0
operands_in (operation.Undef a) = numbers a 0 0
operands_in (operation.SClass a) = numbers a 0 0
operands_in (operation.TClass a) = numbers a 0 0
operands_in (operation.Defined a b c) = numbers a b c
operands_in operation.Stop = numbers 0 0 0

-- the instruction with these operands
abbrev pub operation_of : Opcode → Operands → Operation
operation_of opcode.Nop o = operation.Nop
operation_of opcode.Move o = operation.Move o.a o.b
operation_of opcode.LoadL o = operation.LoadL o.a o.b
operation_of opcode.LoadI o = operation.LoadI o.a o.b
operation_of opcode.LoadI16 o = operation.LoadI16 o.a o.by
operation_of opcode.LoadI32 o = operation.LoadI32 o.a o.by
operation_of opcode.LoadSym o = operation.LoadSym o.a o.b
operation_of opcode.LoadNil o = operation.LoadNil o.a
operation_of opcode.LoadSelf o = operation.LoadSelf o.a
operation_of opcode.LoadT o = operation.LoadT o.a
operation_of opcode.LoadF o = operation.LoadF o.a
operation_of opcode.GetGv o = operation.GetGv o.a o.b
operation_of opcode.SetGv o = operation.SetGv o.a o.b
operation_of opcode.GetIv o = operation.GetIv o.a o.b
operation_of opcode.SetIv o = operation.SetIv o.a o.b
operation_of opcode.GetConst o = operation.GetConst o.a o.b
operation_of opcode.SetConst o = operation.SetConst o.a o.b
operation_of opcode.GetMCnst o = operation.GetMCnst o.a o.b
operation_of opcode.SetMCnst o = operation.SetMCnst o.a o.b
operation_of opcode.GetUpVar o = operation.GetUpVar o.a o.b o.c
operation_of opcode.SetUpVar o = operation.SetUpVar o.a o.b o.c
operation_of opcode.Jmp o = operation.Jmp o.by
operation_of opcode.JmpIf o = operation.JmpIf o.a o.by
operation_of opcode.JmpNot o = operation.JmpNot o.a o.by
operation_of opcode.JmpUw o = operation.JmpUw o.by
operation_of opcode.Except o = operation.Except o.a
operation_of opcode.Rescue o = operation.Rescue o.a o.b
operation_of opcode.RaiseIf o = operation.RaiseIf o.a
operation_of opcode.SSend o = operation.SSend o.a o.b o.c
operation_of opcode.SSendB o = operation.SSendB o.a o.b o.c
operation_of opcode.Send o = operation.Send o.a o.b o.c
operation_of opcode.SendB o = operation.SendB o.a o.b o.c
operation_of opcode.Call o = operation.Call o.a o.b
operation_of opcode.Super o = operation.Super o.a o.b
operation_of opcode.Enter o = operation.Enter o.parameters
operation_of opcode.BlkPush o = operation.BlkPush o.a
operation_of opcode.Return o = operation.Return o.a
operation_of opcode.ReturnBlk o = operation.ReturnBlk o.a
operation_of opcode.Break o = operation.Break o.a
operation_of opcode.Add o = operation.Add o.a
operation_of opcode.Sub o = operation.Sub o.a
operation_of opcode.Mul o = operation.Mul o.a
operation_of opcode.Div o = operation.Div o.a
operation_of opcode.Eq o = operation.Eq o.a
operation_of opcode.Lt o = operation.Lt o.a
operation_of opcode.Le o = operation.Le o.a
operation_of opcode.Gt o = operation.Gt o.a
operation_of opcode.Ge o = operation.Ge o.a
operation_of opcode.Array o = operation.Array o.a o.b
operation_of opcode.AryPush o = operation.AryPush o.a o.b
operation_of opcode.AryCat o = operation.AryCat o.a
operation_of opcode.ARef o = operation.ARef o.a o.b o.by
operation_of opcode.APost o = operation.APost o.a o.b o.by
operation_of opcode.Intern o = operation.Intern o.a
operation_of opcode.String o = operation.String o.a o.b
operation_of opcode.StrCat o = operation.StrCat o.a
operation_of opcode.Hash o = operation.Hash o.a o.b
operation_of opcode.HashAdd o = operation.HashAdd o.a o.b
operation_of opcode.Lambda o = operation.Lambda o.a o.b
operation_of opcode.Block o = operation.Block o.a o.b
operation_of opcode.RangeInc o = operation.RangeInc o.a
operation_of opcode.RangeExc o = operation.RangeExc o.a
operation_of opcode.OClass o = operation.OClass o.a o.b
operation_of opcode.Class o = operation.Class o.a o.b
operation_of opcode.Module o = operation.Module o.a o.b
operation_of opcode.Exec o = operation.Exec o.a o.b
operation_of opcode.Def o = operation.Def o.a o.b o.c
operation_of opcode.Alias o = operation.Alias o.a o.b
operation_of opcode.Undef o = operation.Undef o.a
operation_of opcode.SClass o = operation.SClass o.a
operation_of opcode.TClass o = operation.TClass o.a
operation_of opcode.Defined o = operation.Defined o.a o.b o.c
operation_of opcode.Stop o = operation.Stop

-- the operands that a shape has, and 0 for the others
abbrev pub keep : Shape → Operands → Operands
keep Z o = numbers 0 0 0
keep B o = numbers o.a 0 0
keep BB o = numbers o.a o.b 0
keep BBB o = numbers o.a o.b o.c
keep BBI o = with_signed o.a o.b o.by
keep S o = with_signed 0 0 o.by
keep BS o = with_signed o.a 0 o.by
keep BSS o = with_signed o.a 0 o.by
keep W o = with_parameters o.parameters
