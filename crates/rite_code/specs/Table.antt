-- The table of the instructions (docs/formats.md): number, name and shape.
use Rattle.std.specs.Prelude.{ℕ, List, [], ◌∷◌, codes, Option, slice_get}
use Rattle.rite_code.specs.declared.opcode.Opcode.{Opcode}
use Rattle.rite_code.specs.declared.opcode.Opcode.TheVariants as opcode
use Rattle.rite_code.specs.declared.opcode.Shape.{Shape}
use Rattle.rite_code.specs.declared.opcode.Shape.TheVariants.{Z, B, BB, BBB, BBI, S, BS, BSS, W}

pub record Row : Type 0 where
  pub number : ℕ
  pub name : List ℕ
  pub shape : Shape

abbrev pub row_of : Opcode → Row
row_of opcode.Nop = record { number = 0; name = codes "NOP"; shape = Z }
row_of opcode.Move = record { number = 1; name = codes "MOVE"; shape = BB }
row_of opcode.LoadL = record { number = 2; name = codes "LOADL"; shape = BB }
row_of opcode.LoadI = record { number = 3; name = codes "LOADI"; shape = BB }
row_of opcode.LoadI16 = record { number = 4; name = codes "LOADI16"; shape = BS }
row_of opcode.LoadI32 = record { number = 5; name = codes "LOADI32"; shape = BSS }
row_of opcode.LoadSym = record { number = 6; name = codes "LOADSYM"; shape = BB }
row_of opcode.LoadNil = record { number = 7; name = codes "LOADNIL"; shape = B }
row_of opcode.LoadSelf = record { number = 8; name = codes "LOADSELF"; shape = B }
row_of opcode.LoadT = record { number = 9; name = codes "LOADT"; shape = B }
row_of opcode.LoadF = record { number = 10; name = codes "LOADF"; shape = B }
row_of opcode.GetGv = record { number = 11; name = codes "GETGV"; shape = BB }
row_of opcode.SetGv = record { number = 12; name = codes "SETGV"; shape = BB }
row_of opcode.GetIv = record { number = 13; name = codes "GETIV"; shape = BB }
row_of opcode.SetIv = record { number = 14; name = codes "SETIV"; shape = BB }
row_of opcode.GetConst = record { number = 15; name = codes "GETCONST"; shape = BB }
row_of opcode.SetConst = record { number = 16; name = codes "SETCONST"; shape = BB }
row_of opcode.GetMCnst = record { number = 17; name = codes "GETMCNST"; shape = BB }
row_of opcode.SetMCnst = record { number = 18; name = codes "SETMCNST"; shape = BB }
row_of opcode.GetUpVar = record { number = 19; name = codes "GETUPVAR"; shape = BBB }
row_of opcode.SetUpVar = record { number = 20; name = codes "SETUPVAR"; shape = BBB }
row_of opcode.Jmp = record { number = 21; name = codes "JMP"; shape = S }
row_of opcode.JmpIf = record { number = 22; name = codes "JMPIF"; shape = BS }
row_of opcode.JmpNot = record { number = 23; name = codes "JMPNOT"; shape = BS }
row_of opcode.JmpUw = record { number = 24; name = codes "JMPUW"; shape = S }
row_of opcode.Except = record { number = 25; name = codes "EXCEPT"; shape = B }
row_of opcode.Rescue = record { number = 26; name = codes "RESCUE"; shape = BB }
row_of opcode.RaiseIf = record { number = 27; name = codes "RAISEIF"; shape = B }
row_of opcode.SSend = record { number = 28; name = codes "SSEND"; shape = BBB }
row_of opcode.SSendB = record { number = 29; name = codes "SSENDB"; shape = BBB }
row_of opcode.Send = record { number = 30; name = codes "SEND"; shape = BBB }
row_of opcode.SendB = record { number = 31; name = codes "SENDB"; shape = BBB }
row_of opcode.Call = record { number = 32; name = codes "CALL"; shape = BB }
row_of opcode.Super = record { number = 33; name = codes "SUPER"; shape = BB }
row_of opcode.Enter = record { number = 34; name = codes "ENTER"; shape = W }
row_of opcode.BlkPush = record { number = 35; name = codes "BLKPUSH"; shape = B }
row_of opcode.Return = record { number = 36; name = codes "RETURN"; shape = B }
row_of opcode.ReturnBlk = record { number = 37; name = codes "RETURN_BLK"; shape = B }
row_of opcode.Break = record { number = 38; name = codes "BREAK"; shape = B }
row_of opcode.Add = record { number = 39; name = codes "ADD"; shape = B }
row_of opcode.Sub = record { number = 40; name = codes "SUB"; shape = B }
row_of opcode.Mul = record { number = 41; name = codes "MUL"; shape = B }
row_of opcode.Div = record { number = 42; name = codes "DIV"; shape = B }
row_of opcode.Eq = record { number = 43; name = codes "EQ"; shape = B }
row_of opcode.Lt = record { number = 44; name = codes "LT"; shape = B }
row_of opcode.Le = record { number = 45; name = codes "LE"; shape = B }
row_of opcode.Gt = record { number = 46; name = codes "GT"; shape = B }
row_of opcode.Ge = record { number = 47; name = codes "GE"; shape = B }
row_of opcode.Array = record { number = 48; name = codes "ARRAY"; shape = BB }
row_of opcode.AryPush = record { number = 49; name = codes "ARYPUSH"; shape = BB }
row_of opcode.AryCat = record { number = 50; name = codes "ARYCAT"; shape = B }
row_of opcode.ARef = record { number = 51; name = codes "AREF"; shape = BBI }
row_of opcode.APost = record { number = 52; name = codes "APOST"; shape = BBI }
row_of opcode.Intern = record { number = 53; name = codes "INTERN"; shape = B }
row_of opcode.String = record { number = 54; name = codes "STRING"; shape = BB }
row_of opcode.StrCat = record { number = 55; name = codes "STRCAT"; shape = B }
row_of opcode.Hash = record { number = 56; name = codes "HASH"; shape = BB }
row_of opcode.HashAdd = record { number = 57; name = codes "HASHADD"; shape = BB }
row_of opcode.Lambda = record { number = 58; name = codes "LAMBDA"; shape = BB }
row_of opcode.Block = record { number = 59; name = codes "BLOCK"; shape = BB }
row_of opcode.RangeInc = record { number = 60; name = codes "RANGE_INC"; shape = B }
row_of opcode.RangeExc = record { number = 61; name = codes "RANGE_EXC"; shape = B }
row_of opcode.OClass = record { number = 62; name = codes "OCLASS"; shape = BB }
row_of opcode.Class = record { number = 63; name = codes "CLASS"; shape = BB }
row_of opcode.Module = record { number = 64; name = codes "MODULE"; shape = BB }
row_of opcode.Exec = record { number = 65; name = codes "EXEC"; shape = BB }
row_of opcode.Def = record { number = 66; name = codes "DEF"; shape = BBB }
row_of opcode.Alias = record { number = 67; name = codes "ALIAS"; shape = BB }
row_of opcode.Undef = record { number = 68; name = codes "UNDEF"; shape = B }
row_of opcode.SClass = record { number = 69; name = codes "SCLASS"; shape = B }
row_of opcode.TClass = record { number = 70; name = codes "TCLASS"; shape = B }
row_of opcode.Defined = record { number = 71; name = codes "DEFINED"; shape = BBB }
row_of opcode.Stop = record { number = 72; name = codes "STOP"; shape = Z }

abbrev pub number_of : Opcode → ℕ
number_of o = (row_of o).number

abbrev pub name_of : Opcode → List ℕ
name_of o = (row_of o).name

abbrev pub shape_of : Opcode → Shape
shape_of o = (row_of o).shape

-- the instructions in the order of their numbers
unfoldable pub opcodes : List Opcode
opcodes = opcode.Nop ∷ opcode.Move ∷ opcode.LoadL ∷ opcode.LoadI ∷ opcode.LoadI16 ∷ opcode.LoadI32 ∷ opcode.LoadSym
    ∷ opcode.LoadNil ∷ opcode.LoadSelf ∷ opcode.LoadT ∷ opcode.LoadF ∷ opcode.GetGv ∷ opcode.SetGv ∷ opcode.GetIv
    ∷ opcode.SetIv ∷ opcode.GetConst ∷ opcode.SetConst ∷ opcode.GetMCnst ∷ opcode.SetMCnst ∷ opcode.GetUpVar
    ∷ opcode.SetUpVar ∷ opcode.Jmp ∷ opcode.JmpIf ∷ opcode.JmpNot ∷ opcode.JmpUw ∷ opcode.Except ∷ opcode.Rescue
    ∷ opcode.RaiseIf ∷ opcode.SSend ∷ opcode.SSendB ∷ opcode.Send ∷ opcode.SendB ∷ opcode.Call ∷ opcode.Super
    ∷ opcode.Enter ∷ opcode.BlkPush ∷ opcode.Return ∷ opcode.ReturnBlk ∷ opcode.Break ∷ opcode.Add ∷ opcode.Sub
    ∷ opcode.Mul ∷ opcode.Div ∷ opcode.Eq ∷ opcode.Lt ∷ opcode.Le ∷ opcode.Gt ∷ opcode.Ge ∷ opcode.Array
    ∷ opcode.AryPush ∷ opcode.AryCat ∷ opcode.ARef ∷ opcode.APost ∷ opcode.Intern ∷ opcode.String ∷ opcode.StrCat
    ∷ opcode.Hash ∷ opcode.HashAdd ∷ opcode.Lambda ∷ opcode.Block ∷ opcode.RangeInc ∷ opcode.RangeExc ∷ opcode.OClass
    ∷ opcode.Class ∷ opcode.Module ∷ opcode.Exec ∷ opcode.Def ∷ opcode.Alias ∷ opcode.Undef ∷ opcode.SClass
    ∷ opcode.TClass ∷ opcode.Defined ∷ opcode.Stop ∷ []

-- the instruction of a number, where there is one
unfoldable pub opcode_of : ℕ → Option Opcode
opcode_of n = slice_get opcodes n
