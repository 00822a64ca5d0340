-- What environments are seen as, and what their calls do.
use Rattle.std.specs.Prelude.{◌≡◌, ◌≢◌, ℕ, ◌+◌, ◌<◌, ◌≤◌, List, [], ◌∷◌, ◌++◌, length, take, drop, slice_set}
use Rattle.std.specs.List.{slice_index_or}
use Rattle.rb_value.specs.declared.value.Value.{Value}
use Rattle.stack_bank.specs.Bank.{Bank, IsLive, slots, with_slot}

-- open onto n slots of a stack, from a place on; or closed, with its values
pub data Env : Type 0 where
  Open : ℕ → ℕ → ℕ → Env
  Closed : List Value → Env

-- the one list of an environment
abbrev pub contents : Bank → Env → List Value
contents bank (Open stack base n) = take n (drop base (slots bank stack))
contents bank (Closed values) = values

abbrev pub env : List Env → ℕ → Env
env envs e = slice_index_or envs e (Closed [])

abbrev pub IsOpen : Env → Type 0
IsOpen (Open stack base n) = Unit {0}
IsOpen (Closed values) = ⊥

-- an open window lies within a live stack of the bank
abbrev pub Lies : Bank → Env → Type 0
Lies bank (Open stack base n) = IsLive bank stack × (base + n ≤ length (slots bank stack))
Lies bank (Closed values) = Unit {0}

-- the n slots from base on of a stack are none of an open window
abbrev pub MeetsNot : Env → ℕ → ℕ → ℕ → Type 0
MeetsNot (Open other from count) stack base n = other ≡ stack → (i j : ℕ) → i < count → j < n → from + i ≢ base + j
MeetsNot (Closed values) stack base n = Unit {0}

abbrev pub MeetsNone : List Env → ℕ → ℕ → ℕ → Type 0
MeetsNone envs stack base n = (e : ℕ) → MeetsNot (env envs e) stack base n

abbrev pub captured : List Env → ℕ → ℕ → ℕ → List Env
captured envs stack base n = envs ++ Open stack base n ∷ []

-- value i is written where it stands: in its slot, or in the room of the environment
abbrev pub WritesAt : Env → List Env → List Env → Bank → Bank → ℕ → ℕ → Value → Type 0
WritesAt (Open stack base n) old new bank bank' e i v = (new ≡ old) × (bank' ≡ with_slot bank stack (base + i) v)
WritesAt (Closed values) old new bank bank' e i v = (new ≡ slice_set old e (Closed (slice_set values i v)))
    × (bank' ≡ bank)

abbrev pub Writes : List Env → List Env → Bank → Bank → ℕ → ℕ → Value → Type 0
Writes old new bank bank' e i v = WritesAt (env old e) old new bank bank' e i v

-- value i of the one list is written, and every other environment keeps its list
pub record WritesOne (old new : List Env) (bank bank' : Bank) (e i : ℕ) (v : Value) : Type 0 where
  pub here : contents bank' (env new e) ≡ slice_set (contents bank (env old e)) i v
  pub others : (k : ℕ) → k ≢ e → contents bank' (env new k) ≡ contents bank (env old k)

-- the environment stands in room of its own
abbrev pub closed : List Env → Bank → ℕ → List Env
closed envs bank e = slice_set envs e (Closed (contents bank (env envs e)))
