-- What the calls on the outside do.
use Rattle.std.specs.Prelude.{◌≡◌, ◌⊎◌, ℕ, ◌<◌, ◌≤◌, List, [], ◌++◌, Option, Some, None, length, take, drop}

-- a count of faults rose; one that stands at 2^64 - 1 counts as risen
abbrev pub Rose : ℕ → ℕ → Type 0
Rose old new = (old < new) ⊎ ((old ≤ new) × (18446744073709551615 ≤ new))

-- what was told, with more bytes after it
abbrev pub with_more : Option (List ℕ) → List ℕ → Option (List ℕ)
with_more None bytes = None
with_more (Some told) bytes = Some (told ++ bytes)

-- n bytes came to the front of the buffer, from the front of what was left; none came only where nothing was left
pub record Placed (n : ℕ) (old new bytes rest : List ℕ) : Type 0 where
  pub within : n ≤ length old
  pub front : take n new ≡ take n bytes
  pub enough : n ≤ length bytes
  pub rest_is : rest ≡ drop n bytes
  pub end : n ≡ 0 → bytes ≡ []

abbrev pub Reads : ℕ → List ℕ → List ℕ → Option (List ℕ) → Option (List ℕ) → Type 0
Reads n old new None told = (n ≤ length old) × (told ≡ None)
Reads n old new (Some bytes) told = (rest : List ℕ) × (told ≡ Some rest) × Placed n old new bytes rest

-- the bytes are the prefix of the file up to the limit
abbrev pub IsLoaded : Option (List ℕ) → ℕ → List ℕ → Type 0
IsLoaded held limit bytes = (all : List ℕ) × (held ≡ Some all) × (bytes ≡ take limit all)

abbrev pub SameCounts : (List ℕ → ℕ) → (List ℕ → ℕ) → Type 0
SameCounts old new = (name : List ℕ) → new name ≡ old name

abbrev pub NoCountFell : (List ℕ → ℕ) → (List ℕ → ℕ) → Type 0
NoCountFell old new = (name : List ℕ) → old name ≤ new name

-- what was told, with some prefix of the bytes after it
abbrev pub TookFront : Option (List ℕ) → Option (List ℕ) → List ℕ → Type 0
TookFront old new bytes = (k : ℕ) × (new ≡ with_more old (take k bytes))
