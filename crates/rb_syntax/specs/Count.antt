-- The names of the variants, as they print.
use Rattle.std.specs.Prelude.{ℕ, List, codes}
use Rattle.rb_syntax.specs.declared.count.Count.{Count}
use Rattle.rb_syntax.specs.declared.count.Count.TheVariants.{Source, Parameters, Registers, Pool, Symbols, Children, Code, File}

abbrev pub name_of : Count → List ℕ
name_of Source = codes "Source"
name_of Parameters = codes "Parameters"
name_of Registers = codes "Registers"
name_of Pool = codes "Pool"
name_of Symbols = codes "Symbols"
name_of Children = codes "Children"
name_of Code = codes "Code"
name_of File = codes "File"
