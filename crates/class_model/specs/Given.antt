-- What the calls that define classes give.
use Rattle.rb_value.specs.declared.value.Value.{Value}
use Rattle.rb_value.specs.declared.value.Value.TheVariants.{Nil, True, False, Int, Sym, Obj}
use Rattle.rb_value.specs.declared.outcome.Outcome.{Outcome}
use Rattle.rb_value.specs.declared.outcome.Outcome.TheVariants as outcome
use Rattle.def_core.specs.Sound.{Census, ClassOrModule, String, Is, IsValue}

-- the value is a class or module of the store
abbrev pub IsClass : Census → Value → Type 0
IsClass k Nil = ⊥
IsClass k True = ⊥
IsClass k False = ⊥
IsClass k (Int n) = ⊥
IsClass k (Sym s) = ⊥
IsClass k (Obj c) = Is k ClassOrModule c

-- a value that is given is one, and what is raised belongs to the store
abbrev pub GivesClass : Census → Outcome → Type 0
GivesClass k (outcome.Value v) = IsClass k v
GivesClass k (outcome.Raise f) = Is k String f.message × IsValue k f.detail
