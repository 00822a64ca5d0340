-- Which instruction makes each body into a block, a method or the body of a class.
use Rattle.std.specs.Prelude.{ℕ, zero, suc, ◌+◌, List, [], ◌∷◌, ◌++◌, Option, Some, None, slice_get, nat_eq, Bool, true, false, if◌then◌else◌}
use Rattle.rite_code.specs.declared.operation.Operation.{Operation}
use Rattle.rite_code.specs.declared.operation.Operation.TheVariants as operation
use Rattle.rite_code.specs.declared.code.Irep.{Irep}
use Rattle.rite_code.specs.Code.{Program}
use Rattle.code_outline.specs.declared.maker.Purpose.{Purpose}
use Rattle.code_outline.specs.declared.maker.Purpose.TheVariants as purpose
use Rattle.code_outline.specs.declared.maker.Maker.{Maker}
use Rattle.code_outline.specs.Layout.{Standing, layout}

-- the index among the children and the purpose, where the instruction uses a child
abbrev pub use_in : Operation → Option (ℕ × Purpose)
use_in (operation.Lambda a b) = Some (b, purpose.Lambda)
use_in (operation.Block a b) = Some (b, purpose.Block)
use_in (operation.Exec a b) = Some (b, purpose.ClassBody)
use_in (operation.Def a b c) = Some (c, purpose.Method)
use_in o = None

-- a child's number and its maker
pub record Made : Type 0 where
  pub child : ℕ
  pub maker : Maker

abbrev pub numbered : ℕ → ℕ → Purpose → Option ℕ → List Made
numbered k at u None = []
numbered k at u (Some n) = record { child = n; maker = record { body = k; at = at; purpose = u } } ∷ []

abbrev pub child_made : ℕ → Irep → ℕ → Option (ℕ × Purpose) → List Made
child_made k b at None = []
child_made k b at (Some u) = numbered k at u.1 (slice_get b.children u.0)

-- what an instruction of body k makes
abbrev pub made_by : ℕ → Irep → Standing → List Made
made_by k b s = child_made k b s.at (use_in s.instruction.operation)

-- what some instructions of body k make, and what the bodies from number k on do
unfoldable pub made_in : ℕ → Irep → List Standing → List Made
made_in k b [] = []
made_in k b (s ∷ ss) = made_by k b s ++ made_in k b ss

unfoldable pub made_from : ℕ → ℕ → List Irep → List Made
made_from version k [] = []
made_from version k (b ∷ bs) = made_in k b (layout version b.code) ++ made_from version (k + 1) bs

-- the first that has this child
unfoldable pub first_maker : ℕ → List Made → Option Maker
first_maker j [] = None
first_maker j (m ∷ ms) = if nat_eq m.child j then Some m.maker else first_maker j ms

-- the instruction that makes body j, the first where there are several
unfoldable pub maker_of : Program → ℕ → Option Maker
maker_of p j = first_maker j (made_from p.version 0 p.bodies)

-- whether the locals of the body around can be reached: those of a block or a lambda
abbrev pub is_function : Purpose → Bool
is_function purpose.Lambda = true
is_function purpose.Block = true
is_function purpose.Method = false
is_function purpose.ClassBody = false

-- the body whose scope is one level out, and the one that is c + 1 levels out
abbrev pub around : Option Maker → Option ℕ
around None = None
around (Some m) = if is_function m.purpose then Some m.body else None

abbrev pub outer : Program → ℕ → Option ℕ
outer p k = around (maker_of p k)

abbrev pub further : Option ℕ → (ℕ → Option ℕ) → Option ℕ
further None out = None
further (Some j) out = out j

unfoldable pub scope_out : Program → ℕ → ℕ → Option ℕ
scope_out p zero k = outer p k
scope_out p (suc c) k = further (outer p k) (scope_out p c)
