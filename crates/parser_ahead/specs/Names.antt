-- The names that are known as locals.
use Rattle.std.specs.Prelude.{ℕ, List, [], ◌∷◌, ◌++◌, drop, Bool, true, false, bytes_eq, if◌then◌else◌}
use Rattle.parser_ahead.specs.declared.names.Variable.{Variable}

abbrev pub is_known : List ℕ → List Variable → Bool
is_known x [] = false
is_known x (v ∷ vs) = if bytes_eq x v.name then true else is_known x vs

abbrev pub variable : List ℕ → Bool → Variable
variable x p = record { name = x; parameter = p }

abbrev pub declared : List Variable → List ℕ → Bool → List Variable
declared vs x p = vs ++ variable x p ∷ []

-- an assignment begins the name, where it isn't known
abbrev pub learned : List Variable → List ℕ → List Variable
learned vs x = if is_known x vs then vs else declared vs x false

-- those that are no parameters
abbrev pub locals_of : List Variable → List (List ℕ)
locals_of [] = []
locals_of (v ∷ vs) = if v.parameter then locals_of vs else v.name ∷ locals_of vs

abbrev pub locals_from : ℕ → List Variable → List (List ℕ)
locals_from mark vs = locals_of (drop mark vs)
