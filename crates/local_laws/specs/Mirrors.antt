-- Scopes of an evaluation that have the variables of the bodies that a form sees.
use Rattle.std.specs.Prelude.{◌≡◌, ℕ, List, [], ◌∷◌, Bool, true, false, is_some, if◌then◌else◌}
use Rattle.rb_value.specs.declared.value.Value.{Value}
use Rattle.ir_core.specs.CoreForm.{Local}
use Rattle.scope_resolver.specs.Layout.{Slots, Scopes, is_at}
use Rattle.def_eval.specs.Configuration.{Scope}
use Rattle.def_eval.specs.Scopes.{value_in, scope_at}
use Rattle.code_laws.specs.Bound.{IsSeen}

-- whether a body has a slot of the local
abbrev pub has_slot : Local → Slots → Bool
has_slot x [] = false
has_slot x (s ∷ ss) = if is_at x s then true else has_slot x ss

-- there are the variables that the body has slots of, but for hidden ones
abbrev pub Mirrors : List (Local × Value) → Slots → Type 0
Mirrors vs ss = (x : Local) → IsSeen x → is_some (value_in vs x) ≡ has_slot x ss

-- so in each of these scopes for its body, and there are as many of both
abbrev pub AreMirrored : List Scope → List ℕ → Scopes → Type 0
AreMirrored cs [] [] = Unit
AreMirrored cs [] (ss ∷ scopes) = ⊥
AreMirrored cs (n ∷ ns) [] = ⊥
AreMirrored cs (n ∷ ns) (ss ∷ scopes) = Mirrors (scope_at cs n).variables ss × AreMirrored cs ns scopes
