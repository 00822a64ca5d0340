-- What a pool is seen as, and what its calls do to it.
use Rattle.std.specs.Prelude.{◌≡◌, ◌≢◌, ℕ, ◌+◌, ◌-◌, List, [], ◌∷◌, ◌++◌, Option, Some, None, length, take, drop, replicate, max, count_by, is_some, IsSome, unwrap_or, slice_set}
use Rattle.std.specs.List.{slice_index_or}

pub record Pool (T : Type 0) : Type 0 where
  -- by number: a live block as its 64 values, a free one as none
  pub blocks : List (Option (List T))
  -- the free blocks
  pub free : List ℕ
  -- how many blocks can be leased without memory
  pub spare : ℕ

abbrev pub no_blocks : {T : Type 0} → Pool T
no_blocks = record { blocks = []; free = []; spare = 0 }

-- at least n blocks can be leased without memory
abbrev pub with_spare : {T : Type 0} → Pool T → ℕ → Pool T
with_spare pool n = record pool { spare = max pool.spare n }

-- the values of a live block, none of every other number
abbrev pub block : {T : Type 0} → Pool T → ℕ → Option (List T)
block pool b = slice_index_or pool.blocks b None

abbrev pub IsLive : {T : Type 0} → Pool T → ℕ → Type 0
IsLive pool b = IsSome (block pool b)

-- the values of a live block
abbrev pub values : {T : Type 0} → Pool T → ℕ → List T
values pool b = unwrap_or (block pool b) []

abbrev pub live_blocks : {T : Type 0} → List (Option (List T)) → ℕ
live_blocks blocks = count_by is_some blocks

-- b is the last of the free blocks, or a new one where none is free
abbrev pub Takes : List ℕ → List ℕ → ℕ → ℕ → Type 0
Takes [] left count b = (left ≡ []) × (b ≡ count)
Takes (f ∷ free) left count b = f ∷ free ≡ left ++ b ∷ []

-- how many new blocks a lease makes
abbrev pub new_blocks : List ℕ → ℕ
new_blocks [] = 1
new_blocks (f ∷ free) = 0

-- b is leased: it wasn't live, it holds 64 times the value, and every other block is as before
pub record Leases {T : Type 0} (old new : Pool T) (b : ℕ) (fill : T) : Type 0 where
  pub taken : Takes old.free new.free (length old.blocks) b
  pub not_live : block old b ≡ None
  pub holds : block new b ≡ Some (replicate 64 fill)
  pub others : (k : ℕ) → k ≢ b → block new k ≡ block old k
  pub count : length new.blocks ≡ length old.blocks + new_blocks old.free
  pub live : live_blocks new.blocks ≡ live_blocks old.blocks + 1
  pub spare : new.spare ≡ old.spare - 1

-- k values from place a on are the values ys
abbrev pub with_part : {T : Type 0} → ℕ → ℕ → List T → List T → List T
with_part a k xs ys = take a xs ++ (ys ++ drop k (drop a xs))

-- the block holds the values, and every other block is as before
abbrev pub with_values : {T : Type 0} → Pool T → ℕ → List T → Pool T
with_values pool b xs = record pool { blocks = slice_set pool.blocks b (Some xs) }

-- the block is free
abbrev pub given : {T : Type 0} → Pool T → ℕ → Pool T
given pool b = record { blocks = slice_set pool.blocks b None; free = pool.free ++ b ∷ []; spare = pool.spare + 1 }

abbrev pub written : {T : Type 0} → Pool T → ℕ → ℕ → T → Pool T
written pool b i v = with_values pool b (slice_set (values pool b) i v)

abbrev pub filled : {T : Type 0} → Pool T → ℕ → ℕ → ℕ → T → Pool T
filled pool b from to v = with_values pool b (with_part from (to - from) (values pool b) (replicate (to - from) v))
