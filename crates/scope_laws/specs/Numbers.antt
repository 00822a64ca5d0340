-- How the scopes of the evaluation and the lists of registers of the machine are numbered: each by what is around it.
use Rattle.std.specs.Prelude.{◌≡◌, ◌⊎◌, ℕ, List, [], ◌∷◌, ◌++◌, length, map, Option, None}
use Rattle.def_eval.specs.Configuration as eval
use Rattle.def_eval.specs.Configuration.{Scope, Config, Run, Halt}
use Rattle.def_machine.specs.State.{Registers, Level, frame, iteration, State, On, Off, Stuck}

-- the numbers around each scope, and around each list of registers
abbrev pub parents : List Scope → List (Option ℕ)
parents cs = map (λ c. c.parent) cs

abbrev pub outers : List Registers → List (Option ℕ)
outers ls = map (λ r. r.outer) ls

-- all that were there are there, each within what it was in, and none is new; or one is, which has the next number,
-- and that is where the body that runs is
abbrev pub Grows : List (Option ℕ) → List (Option ℕ) → (ℕ → Type 0) → Type 0
Grows before after RunsIn =
    (after ≡ before) ⊎ ((around : Option ℕ) × (after ≡ before ++ around ∷ []) × RunsIn (length before))

-- the running body is in the scope of that number
abbrev pub InScope : eval.Memory → ℕ → Type 0
InScope m n = m.place.scope ≡ n

abbrev pub ScopesGrow : List (Option ℕ) → Config → Type 0
ScopesGrow before (Run f ks m) = Grows before (parents m.scopes) (InScope m)
ScopesGrow before (Halt e) = Unit {0}

-- the innermost level is a frame with the list of that number
abbrev pub InList : List Level → ℕ → Type 0
InList [] n = ⊥
InList (frame f ∷ ls) n = f.list ≡ n
InList (iteration a it v ∷ ls) n = ⊥

abbrev pub ListsGrow : List (Option ℕ) → State → Type 0
ListsGrow before (On ls m) = Grows before (outers m.lists) (InList ls)
ListsGrow before (Off e) = Unit {0}
ListsGrow before (Stuck out) = Unit {0}

-- one scope, or one list, within none: that of number 0, in which the main program runs
abbrev pub OpensFirstScope : Config → Type 0
OpensFirstScope (Run f ks m) = (parents m.scopes ≡ None ∷ []) × InScope m 0
OpensFirstScope (Halt e) = ⊥

abbrev pub OpensFirstList : State → Type 0
OpensFirstList (On ls m) = (outers m.lists ≡ None ∷ []) × InList ls 0
OpensFirstList (Off e) = ⊥
OpensFirstList (Stuck out) = ⊥
