-- The names of the variants, as they print.
use Rattle.std.specs.Prelude.{ℕ, List, codes}
use Rattle.rite_code.specs.declared.cause.Cause.{Cause}
use Rattle.rite_code.specs.declared.cause.Cause.TheVariants.{Opcode, Cut, Extended, Register, Pool, Symbol, Child, Jump, Upvar, Enter, Place, Use, Fall, Catch}

abbrev pub name_of : Cause → List ℕ
name_of Opcode = codes "Opcode"
name_of Cut = codes "Cut"
name_of Extended = codes "Extended"
name_of Register = codes "Register"
name_of Pool = codes "Pool"
name_of Symbol = codes "Symbol"
name_of Child = codes "Child"
name_of Jump = codes "Jump"
name_of Upvar = codes "Upvar"
name_of Enter = codes "Enter"
name_of Place = codes "Place"
name_of Use = codes "Use"
name_of Fall = codes "Fall"
name_of Catch = codes "Catch"
