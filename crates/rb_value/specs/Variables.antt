-- The instance variables of an object.
use Rattle.std.specs.Prelude.{ℕ, List, [], ◌∷◌, ◌++◌, Bool, nat_eq, get_or, Option, Some, None, slice_set}
use Rattle.std.specs.List.{position}
use Rattle.rb_value.specs.declared.value.SymId.{SymId}
use Rattle.rb_value.specs.declared.value.Value.{Value}
use Rattle.rb_value.specs.declared.value.Value.TheVariants.{Nil}
use Rattle.rb_value.specs.declared.variables.Variable.{Variable}

abbrev pub is_named : SymId → Variable → Bool
is_named name variable = nat_eq variable.name.0 name.0

-- the value at a place
abbrev pub value_at : List Variable → Option ℕ → Option Value
value_at vs None = None
value_at vs (Some n) = Some (get_or vs n (record { name = record { 0 = 0 }; value = Nil })).value

-- the value of the variable of that name
abbrev pub variable_of : List Variable → SymId → Option Value
variable_of vs name = value_at vs (position (is_named name) vs)

abbrev pub put_at : List Variable → Variable → Option ℕ → List Variable
put_at vs v None = vs ++ v ∷ []
put_at vs v (Some n) = slice_set vs n v

-- one that was set before keeps its place, and a new one goes last
abbrev pub with_variable : List Variable → SymId → Value → List Variable
with_variable vs name value = put_at vs (record { name = name; value = value }) (position (is_named name) vs)
