-- What stands at a place of a text, and the longest that does.
use Rattle.std.specs.Prelude.{◌≡◌, ℕ, ◌+◌, ◌≤◌, ◌<◌, Bool, true, List, [], ◌∷◌, length, slice_index}

-- of all that begins at a place, this end is the last where such a thing ends
pub record IsLongest (Stands : ℕ → Type 0) (end : ℕ) : Type 0 where
  pub there : Stands end
  pub longest : (other : ℕ) → Stands other → other ≤ end

-- the bytes from one place of a text to another are all of one class
pub record IsRun (is : ℕ → Bool) (text : List ℕ) (at end : ℕ) : Type 0 where
  pub forward : at ≤ end
  pub within : end ≤ length text
  pub all : (i : ℕ) → at ≤ i → i < end → is (slice_index text i) ≡ true

-- these bytes stand at a place of a text
abbrev pub Stands : List ℕ → ℕ → List ℕ → Type 0
Stands text at [] = Unit {0}
Stands text at (b ∷ bs) = (at < length text) × (slice_index text at ≡ b) × Stands text (at + 1) bs
