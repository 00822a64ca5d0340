-- Two functions that make steps, side by side, and what it means that the second follows the first.
use Rattle.std.specs.Prelude.{◌≡◌, ◌⊎◌, ℕ, zero, suc, ◌+◌, ◌*◌, ◌<◌, ◌≤◌, Bool, true, false}

-- n steps
abbrev pub times : {X : Type 0} → ℕ → (X → X) → X → X
times zero f x = x
times (suc n) f x = times n f (f x)

-- One transition from c is matched by few turns from m: the two are related again after them, in between the
-- second shows what the first shows before or after its transition, and a transition that no turn matches
-- lowers the measure.
pub record Matched {C M V : Type 0} (go : C → C) (turn : M → M) (seen : C → V) (shown : M → V) (measure : C → ℕ)
    (Related : C → M → Type 0) (c : C) (m : M) : Type 0 where
  pub turns : ℕ
  pub few : turns ≤ 32
  pub related : Related (go c) (times turns turn m)
  pub between : (j : ℕ) → j < turns → (shown (times j turn m) ≡ seen c) ⊎ (shown (times j turn m) ≡ seen (go c))
  pub falls : turns ≡ 0 → measure (go c) < measure c

-- What related configurations and states show is alike, an end stays, and each transition is matched.
pub record StepLaw {C M V : Type 0} (go : C → C) (turn : M → M) (seen : C → V) (shown : M → V) (over : V → Bool)
    (measure : C → ℕ) (Related : C → M → Type 0) : Type 0 where
  pub alike : (c : C) (m : M) → Related c m → shown m ≡ seen c
  pub ended : (c : C) → over (seen c) ≡ true → go c ≡ c
  pub stopped : (m : M) → over (shown m) ≡ true → turn m ≡ m
  pub matched : (c : C) (m : M) → Related c m → over (seen c) ≡ false → Matched go turn seen shown measure Related c m

-- The second ends as the first does, in at most 32 turns for each transition and 32 more; it ends only so; and
-- while it goes on it shows what the first shows after at least n/32 - 1 transitions.
pub record Follows {C M V : Type 0} (go : C → C) (turn : M → M) (seen : C → V) (shown : M → V) (over : V → Bool) (c : C)
    (m : M) : Type 0 where
  pub ends : (n : ℕ) → over (seen (times n go c)) ≡ true → shown (times (32 * n + 32) turn m) ≡ seen (times n go c)
  pub ends_only : (n : ℕ) → over (shown (times n turn m)) ≡ true → (k : ℕ)
      × (seen (times k go c) ≡ shown (times n turn m))
  pub goes_on : (n : ℕ) → over (shown (times n turn m)) ≡ false → (k : ℕ)
      × (seen (times k go c) ≡ shown (times n turn m)) × (n ≤ 32 * (k + 1))
