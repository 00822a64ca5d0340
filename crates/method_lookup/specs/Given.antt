-- The arguments as the parameters take them.
use Rattle.std.specs.Prelude.{ℕ, ◌≡◌, ◌<◌, List, [], ◌∷◌, ◌++◌, length, replicate, false, Option, Some, None}
use Rattle.rb_value.specs.declared.value.Value.{Value}
use Rattle.rb_value.specs.declared.value.Value.TheVariants.{Nil, Obj}
use Rattle.rb_value.specs.declared.value.ObjId.{ObjId}
use Rattle.rb_value.specs.declared.method.Shape.{Shape}
use Rattle.def_core.specs.declared.bound.Bound.{Bound}
use Rattle.def_core.specs.declared.bound.Bound.TheVariants.{Values, Wrong}
use Rattle.def_core.specs.Store.{Store}
use Rattle.def_core.specs.Bind.{Binding, least}
use Rattle.def_core.specs.Sound.{Census, IsValue, AllAre}
use Rattle.method_lookup.specs.declared.given.Given.{Given}

-- the values, and nil for each that is missing
abbrev pub all_of : Given → List Value
all_of g = g.values.now ++ replicate g.missing Nil

-- the value of the parameter for the rest, where there is one
abbrev pub rest_of : Option ObjId → List Value
rest_of None = []
rest_of (Some id) = Obj id ∷ []

-- where values are missing, there are just as many as have to be given
abbrev pub PadsToLeast : Given → Shape → Type 0
PadsToLeast g s = 0 < g.missing → length (all_of g) ≡ least s

-- the number of arguments doesn't fit
abbrev pub IsWrong : Bound → Type 0
IsWrong (Values list n) = ⊥
IsWrong (Wrong n) = Unit {0}

-- the values of the parameters, if there are any, are values of the store
abbrev pub HasValues : Census → Bound → Type 0
HasValues k (Values list n) = AllAre (IsValue k) list
HasValues k (Wrong n) = Unit {0}

-- so many required parameters alone
abbrev pub only : ℕ → Shape
only r = record { required = r; optional = 0; rest = false; post = 0 }

-- the arguments are the values, and nothing is put into the store
abbrev pub as_given : Store → List Value → Binding
as_given st args = record { bound = Values args 0; store = st }
