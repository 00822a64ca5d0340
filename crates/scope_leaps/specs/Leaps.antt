-- Scopes further out, by the body that is one level out of each.
use Rattle.std.specs.Prelude.{◌≡◌, ℕ, zero, suc, ◌+◌, ◌<◌, ◌≤◌, List, length, get_or, Option, Some, None, IfSome}
use Rattle.scope_leaps.specs.declared.leap.Leap.{Leap}

-- the body whose scope is one level out
abbrev pub outer_in : List (Option ℕ) → ℕ → Option ℕ
outer_in outers k = get_or outers k None

abbrev pub further : Option ℕ → (ℕ → Option ℕ) → Option ℕ
further None out = None
further (Some j) out = out j

-- the one whose scope is n levels out: the body itself where n is 0
unfoldable pub levels_out : List (Option ℕ) → ℕ → ℕ → Option ℕ
levels_out outers zero k = Some k
levels_out outers (suc n) k = further (outer_in outers k) (levels_out outers n)

-- c + 1 levels out
abbrev pub scope_in : List (Option ℕ) → ℕ → ℕ → Option ℕ
scope_in outers c k = levels_out outers (c + 1) k

-- a body further out stands before
abbrev pub ComeBefore : List (Option ℕ) → Type 0
ComeBefore outers = (k : ℕ) → k < length outers → IfSome (outer_in outers k) (λ j. j < k)

-- a leap leads as many levels out as it says
abbrev pub LeadsOut : List (Option ℕ) → ℕ → Leap → Type 0
LeadsOut outers k l = levels_out outers l.levels k ≡ Some l.body

abbrev pub LeadAll : List (Option ℕ) → List Leap → Type 0
LeadAll outers leaps = (k : ℕ) (d : Leap) → k < length leaps → LeadsOut outers k (get_or leaps k d)

-- each level leads to a body before
abbrev pub AreLow : List Leap → Type 0
AreLow leaps = (k : ℕ) (d : Leap) → k < length leaps → (get_or leaps k d).body + (get_or leaps k d).levels ≤ k

-- the leaps of the bodies
pub record AreLeaps (outers : List (Option ℕ)) (leaps : List Leap) : Type 0 where
  pub count : length leaps ≡ length outers
  pub low : AreLow leaps
  pub lead : LeadAll outers leaps
  pub before : ComeBefore outers
