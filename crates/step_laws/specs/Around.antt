-- The body that a block of a source stands in, and the slots that its code sees around its own.
use Rattle.std.specs.Prelude.{◌≡◌, ◌<◌, ◌≤◌, ℕ, ◌+◌, [], ◌∷◌, Bool, true, false}
use Rattle.ir_core.specs.CoreForm.{Body}
use Rattle.scope_resolver.specs.declared.body_kind.BodyKind.TheVariants as kind
use Rattle.scope_resolver.specs.declared.seek.Search.{Search}
use Rattle.scope_resolver.specs.declared.seek.Search.TheVariants.{Found, Past}
use Rattle.scope_resolver.specs.Layout.{Slots, Scopes, slots_of}
use Rattle.def_eval.specs.Source.{Source, body_at, form_of, span}
use Rattle.eval_laws.specs.Kinds.{Kind, of_program, of_block, of_method, of_class, IsKind}

abbrev pub slots_for : Kind → Body → Slots
slots_for of_program b = slots_of kind.Main b
slots_for of_block b = slots_of kind.Block b
slots_for of_method b = slots_of kind.Method b
slots_for of_class b = slots_of kind.Class b

-- how many bodies stand in that of a number
abbrev pub inside_of : Source → ℕ → ℕ
inside_of s n = span (form_of (body_at s n))

-- body i is the innermost one that has body n in its form: bodies have their numbers depth first
pub record Innermost (s : Source) (n i : ℕ) : Type 0 where
  pub before : i < n
  pub has : n ≤ i + inside_of s i
  pub closed : (k : ℕ) → i < k → k < n → k + inside_of s k < n

-- a block sees the slots of the body that it stands in, and what that sees; no other body sees any but its own
pub data Around (s : Source) : ℕ → Scopes → Type 0 where
  alone : {n : ℕ} {scopes : Scopes} → (k : Kind) → IsKind s n k → (k ≡ of_block → ⊥) → scopes ≡ [] → Around s n scopes
  inside : {n : ℕ} {scopes : Scopes} → (i : ℕ) (k : Kind) (others : Scopes) → IsKind s n of_block → Innermost s n i
      → IsKind s i k → Around s i others → scopes ≡ slots_for k (body_at s i) ∷ others → Around s n scopes

-- whether a local is found among slots
abbrev pub is_found : Search → Bool
is_found (Found n) = true
is_found (Past n) = false

-- the slots of a body, and those that it sees around them
abbrev pub first_slots : Scopes → Slots
first_slots [] = []
first_slots (ss ∷ scopes) = ss

abbrev pub further_slots : Scopes → Scopes
further_slots [] = []
further_slots (ss ∷ scopes) = scopes
