-- How many classes and modules a search asks for a name.
use Rattle.std.specs.Prelude.{ℕ, zero, suc, List, [], ◌∷◌, Option, Some, None}
use Rattle.rb_base.specs.Steps.{one_more}
use Rattle.rb_value.specs.declared.value.ObjId.{ObjId}
use Rattle.rb_value.specs.declared.value.SymId.{SymId}
use Rattle.rb_value.specs.declared.method.MethodEntry.{MethodEntry}
use Rattle.rb_value.specs.Object.{Object}
use Rattle.def_core.specs.Find.{entry_of}

-- the last one asked is the first that has the name
abbrev pub one_and : Option MethodEntry → ℕ → ℕ
one_and None rest = suc rest
one_and (Some e) rest = 1

unfoldable pub probes : List Object → List ObjId → SymId → ℕ
probes objects [] name = 0
probes objects (c ∷ cs) name = one_and (entry_of objects c name) (probes objects cs name)

-- a count after so many more steps
unfoldable pub counted : ℕ → ℕ → ℕ
counted n zero = n
counted n (suc more) = counted (one_more n) more
