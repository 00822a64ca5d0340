-- The names of the instructions are short.
use Rattle.std.proofs.Common.{◌≡◌, ◌≤◌, true, length, nat_le, refl, arith}
use Rattle.std.proofs.lemmas.Bool.Decides.{nat_tests}
use Rattle.rite_code.specs.declared.opcode.Opcode.{Opcode}
use Rattle.rite_code.specs.declared.opcode.Opcode.TheVariants as opcode
use Rattle.rite_code.specs.Table.{name_of}

is_short : (o : Opcode) → nat_le (length (name_of o)) 10 ≡ true
is_short opcode.Nop = refl
is_short opcode.Move = refl
is_short opcode.LoadL = refl
is_short opcode.LoadI = refl
is_short opcode.LoadI16 = refl
is_short opcode.LoadI32 = refl
is_short opcode.LoadSym = refl
is_short opcode.LoadNil = refl
is_short opcode.LoadSelf = refl
is_short opcode.LoadT = refl
is_short opcode.LoadF = refl
is_short opcode.GetGv = refl
is_short opcode.SetGv = refl
is_short opcode.GetIv = refl
is_short opcode.SetIv = refl
is_short opcode.GetConst = refl
is_short opcode.SetConst = refl
is_short opcode.GetMCnst = refl
is_short opcode.SetMCnst = refl
is_short opcode.GetUpVar = refl
is_short opcode.SetUpVar = refl
is_short opcode.Jmp = refl
is_short opcode.JmpIf = refl
is_short opcode.JmpNot = refl
is_short opcode.JmpUw = refl
is_short opcode.Except = refl
is_short opcode.Rescue = refl
is_short opcode.RaiseIf = refl
is_short opcode.SSend = refl
is_short opcode.SSendB = refl
is_short opcode.Send = refl
is_short opcode.SendB = refl
is_short opcode.Call = refl
is_short opcode.Super = refl
is_short opcode.Enter = refl
is_short opcode.BlkPush = refl
is_short opcode.Return = refl
is_short opcode.ReturnBlk = refl
is_short opcode.Break = refl
is_short opcode.Add = refl
is_short opcode.Sub = refl
is_short opcode.Mul = refl
is_short opcode.Div = refl
is_short opcode.Eq = refl
is_short opcode.Lt = refl
is_short opcode.Le = refl
is_short opcode.Gt = refl
is_short opcode.Ge = refl
is_short opcode.Array = refl
is_short opcode.AryPush = refl
is_short opcode.AryCat = refl
is_short opcode.ARef = refl
is_short opcode.APost = refl
is_short opcode.Intern = refl
is_short opcode.String = refl
is_short opcode.StrCat = refl
is_short opcode.Hash = refl
is_short opcode.HashAdd = refl
is_short opcode.Lambda = refl
is_short opcode.Block = refl
is_short opcode.RangeInc = refl
is_short opcode.RangeExc = refl
is_short opcode.OClass = refl
is_short opcode.Class = refl
is_short opcode.Module = refl
is_short opcode.Exec = refl
is_short opcode.Def = refl
is_short opcode.Alias = refl
is_short opcode.Undef = refl
is_short opcode.SClass = refl
is_short opcode.TClass = refl
is_short opcode.Defined = refl
is_short opcode.Stop = refl

pub name_short : (o : Opcode) → length (name_of o) ≤ 10
name_short o = let short = is_short o in grind (arith, nat_tests)
