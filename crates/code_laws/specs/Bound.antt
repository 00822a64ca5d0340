-- In which body the name of a local is bound, and how an instruction reaches it.
use Rattle.std.specs.Prelude.{◌≡◌, ◌<◌, ℕ, zero, suc, ◌+◌, List, [], ◌∷◌, length, true, false, slice_get, Option, Some}
use Rattle.rite_code.specs.declared.operation.Operation.{Operation}
use Rattle.rite_code.specs.declared.operation.Operation.TheVariants as op
use Rattle.ir_core.specs.CoreForm as form
use Rattle.ir_core.specs.CoreForm.{Local, named, hidden, pattern, rest, Parameters, CoreForm}
use Rattle.ir_core.specs.Program.{Around, is_bound, is_own}
use Rattle.ir_walk.specs.Walk.{Step, at, enter, leave}
use Rattle.scope_resolver.specs.Layout.{Slots, Scopes, is_at}

-- a local of the source, or one that stands for a parameter without a name: blocks see it
abbrev pub IsSeen : Local → Type 0
IsSeen (named x) = Unit
IsSeen (hidden d) = ⊥
IsSeen (pattern k) = Unit
IsSeen rest = Unit

-- no slot is that of the local
abbrev pub Lacks : Local → Slots → Type 0
Lacks x [] = Unit
Lacks x (s ∷ ss) = (is_at x s ≡ false) × Lacks x ss

-- the first slot that is that of the local comes behind so many others
abbrev pub IsFirst : Local → Slots → ℕ → Type 0
IsFirst x [] n = ⊥
IsFirst x (s ∷ ss) zero = is_at x s ≡ true
IsFirst x (s ∷ ss) (suc n) = (is_at x s ≡ false) × IsFirst x ss n

-- The local is bound in the body that stands so many levels out, at that place of its registers behind self, and in no
-- body further in.
pub record IsBound (scopes : Scopes) (x : Local) (levels place : ℕ) : Type 0 where
  pub slots : Slots
  pub body : slice_get scopes levels ≡ Some slots
  pub first : IsFirst x slots place
  pub inner : (n : ℕ) (ss : Slots) → n < levels → slice_get scopes n ≡ Some ss → Lacks x ss

-- some body binds the local
pub record Binds (scopes : Scopes) (x : Local) : Type 0 where
  pub levels : ℕ
  pub place : ℕ
  pub bound : IsBound scopes x levels place

-- the instruction that reads the register behind so many others of the body so many levels out, and that writes it
abbrev pub reading : ℕ → ℕ → ℕ → Operation
reading r zero place = op.Move r (place + 1)
reading r (suc between) place = op.GetUpVar r (place + 1) between

abbrev pub writing : ℕ → ℕ → ℕ → Operation
writing r zero place = op.Move (place + 1) r
writing r (suc between) place = op.SetUpVar r (place + 1) between

-- each of these locals is bound in one of the bodies
abbrev pub AreHeld : Scopes → List Local → Type 0
AreHeld scopes ls = (x : Local) → IsSeen x → is_bound x ls ≡ true → Binds scopes x

-- a parameter of the method around the text is one of the outermost body
pub record Owns (scopes : Scopes) (x : Local) : Type 0 where
  pub levels : ℕ
  pub place : ℕ
  pub slots : Slots
  pub outermost : length scopes ≡ levels + 1
  pub body : slice_get scopes levels ≡ Some slots
  pub first : IsFirst x slots place

abbrev pub AreOwned : Scopes → Option Parameters → Type 0
AreOwned scopes method = (x : Local) → is_own x method ≡ true → Owns scopes x

-- all that a form may name, where that stands around it, is bound in these bodies
abbrev pub Knows : Scopes → Around → Type 0
Knows scopes a = AreHeld scopes a.known × AreOwned scopes a.method

-- the local that a form reads or writes is bound
abbrev pub IsHeld : Scopes → CoreForm → Type 0
IsHeld scopes (form.local x) = IsSeen x → Binds scopes x
IsHeld scopes (form.set_local x e) = IsSeen x → Binds scopes x
IsHeld scopes (form.own x) = Owns scopes x
IsHeld scopes _ = Unit

abbrev pub IsHeldAt : Scopes → Step → Type 0
IsHeldAt scopes (at f) = IsHeld scopes f
IsHeldAt scopes (enter b) = Unit
IsHeldAt scopes leave = Unit
