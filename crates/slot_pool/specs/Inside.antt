-- How a pool keeps its blocks: the free blocks, all places one after another, the number of blocks, and for how many
-- more there is room.
use Rattle.std.specs.Prelude.{◌≡◌, ℕ, ◌+◌, ◌*◌, ◌^◌, ◌<◌, ◌≤◌, List, [], ◌∷◌, Option, Some, None, Bool, false, length, take, drop, map, nat_eq, if◌then◌else◌, All}
use Rattle.std.specs.List.{list_any, range_with_len}
use Rattle.slot_pool.specs.Pool.{live_blocks}

abbrev pub is_free : List ℕ → ℕ → Bool
is_free free b = list_any (nat_eq b) free

abbrev pub block_at : {T : Type 0} → List ℕ → List T → ℕ → Option (List T)
block_at free slots b = if is_free free b then None else Some (take 64 (drop (64 * b) slots))

abbrev pub blocks_of : {T : Type 0} → List ℕ → List T → ℕ → List (Option (List T))
blocks_of free slots count = map (block_at free slots) (range_with_len 0 count)

-- no number stands twice
abbrev pub IsApart : List ℕ → Type 0
IsApart [] = Unit {0}
IsApart (f ∷ free) = (is_free free f ≡ false) × IsApart free

pub record IsSound {T : Type 0} (free : List ℕ) (slots : List T) (count room free_capacity slot_capacity : ℕ) : Type 0
  where
    pub whole : length slots ≡ 64 * count
    pub apart : IsApart free
    pub below : All (λ f. f < count) free
    pub balance : live_blocks (blocks_of free slots count) + length free ≡ count
    pub fits : 64 * count < 2 ^ 64
    pub free_room : count + room ≤ free_capacity
    pub slot_room : 64 * (count + room) ≤ slot_capacity
