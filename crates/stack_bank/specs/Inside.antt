-- How a bank keeps its stacks: the blocks of its pool, and for each stack a table of those that hold it.
use Rattle.std.specs.Prelude.{◌≡◌, ◌≢◌, ℕ, ◌+◌, ◌*◌, ◌^◌, ◌/◌, ◌%◌, ◌<◌, ◌≤◌, List, [], ◌∷◌, ◌++◌, Option, Some, None, Bool, true, false, length, take, map, replicate, unwrap_or, sum_by, IsSome, All, if◌then◌else◌}
use Rattle.std.specs.List.{slice_index_or, range_with_len}
use Rattle.rb_value.specs.declared.value.Value.{Value}
use Rattle.slot_pool.specs.Pool.{Pool, live_blocks}
use Rattle.stack_bank.specs.Bank.{Bank, nil, blocks_for}
use Rattle.stack_bank.specs.declared.blocks.Stack.{Stack}

-- the blocks of the pool by number
abbrev pub Blocks : Type 0
Blocks = List (Option (List Value))

abbrev pub block_at : Blocks → ℕ → Option (List Value)
block_at blocks b = slice_index_or blocks b None

abbrev pub values_at : Blocks → ℕ → List Value
values_at blocks b = unwrap_or (block_at blocks b) []

pub record Held : Type 0 where
  pub live : Bool
  pub length : ℕ
  pub table : List ℕ

abbrev pub held : Stack → Held
held s = record { live = s.live; length = s.length; table = s.blocks.items }

-- a live stack without slots
abbrev pub no_stack : Held
no_stack = record { live = true; length = 0; table = [] }

-- slot i of the stack that the table holds
abbrev pub slot_at : Blocks → List ℕ → ℕ → Value
slot_at blocks table i = slice_index_or (values_at blocks (slice_index_or table (i / 64) 0)) (i % 64) nil

abbrev pub slots_of : Blocks → List ℕ → ℕ → List Value
slots_of blocks table n = map (slot_at blocks table) (range_with_len 0 n)

abbrev pub seen : Blocks → Held → Option (List Value)
seen blocks h = if h.live then Some (slots_of blocks h.table h.length) else None

abbrev pub table_of : Held → List ℕ
table_of h = h.table

abbrev pub see : Blocks → List Held → Bank
see blocks hs = record { stacks = map (seen blocks) hs; tables = map table_of hs }

-- ---- one table

-- the blocks of the table have 64 values each, and none stands twice
pub record HoldsTable (blocks : Blocks) (table : List ℕ) : Type 0 where
  pub full : (j : ℕ) → j < length table → length (values_at blocks (slice_index_or table j 0)) ≡ 64
  pub apart : (i j : ℕ) → i < length table → j < length table → slice_index_or table i 0 ≡ slice_index_or table j 0
      → i ≡ j

abbrev pub IsOutside : List ℕ → ℕ → Type 0
IsOutside table b = (j : ℕ) → j < length table → slice_index_or table j 0 ≢ b

-- blocks are leased and given back for one table: every other live block is as before, and outside the table
pub record Moves (old new : Blocks) (before after : List ℕ) : Type 0 where
  pub others : (b : ℕ) → IsSome (block_at old b) → IsOutside before b → (block_at new b ≡ block_at old b)
      × IsOutside after b
  pub holds : HoldsTable new after
  pub count : live_blocks new + length before ≡ live_blocks old + length after

-- n blocks of nil are leased for the table, behind the others
pub record Adds (old new : Blocks) (before after : List ℕ) (n : ℕ) : Type 0 where
  pub moves : Moves old new before after
  pub kept : (b : ℕ) → IsSome (block_at old b) → block_at new b ≡ block_at old b
  pub more : List ℕ
  pub behind : after ≡ before ++ more
  pub size : length more ≡ n
  pub nils : (j : ℕ) → j < n → block_at new (slice_index_or more j 0) ≡ Some (replicate 64 nil)

-- the first blocks of the table stay, the others are given back
pub record Drops (old new : Blocks) (before after : List ℕ) (keep : ℕ) : Type 0 where
  pub moves : Moves old new before after
  pub front : after ≡ take keep before
  pub kept : (j : ℕ) → j < keep → block_at new (slice_index_or before j 0) ≡ block_at old (slice_index_or before j 0)

-- the places behind the slots are nil, as far as n slots more need them and the blocks of the table have them
pub record Clears (old new : Pool Value) (table : List ℕ) (n more : ℕ) : Type 0 where
  pub moves : Moves old.blocks new.blocks table table
  pub before : (i : ℕ) → i < n → slot_at new.blocks table i ≡ slot_at old.blocks table i
  pub behind : (i : ℕ) → n ≤ i → i < n + more → i < 64 * length table → slot_at new.blocks table i ≡ nil
  pub spare : new.spare ≡ old.spare

-- a stack gets n slots more
pub record StackGrows (old new : Blocks) (before after : Held) (n : ℕ) : Type 0 where
  pub moves : Moves old new before.table after.table
  pub live : after.live ≡ before.live
  pub size : after.length ≡ before.length + n
  pub sized : length after.table ≡ blocks_for after.length
  pub fits : after.length < 2 ^ 64
  pub more : List ℕ
  pub behind : after.table ≡ before.table ++ more
  pub slots : slots_of new after.table after.length ≡ slots_of old before.table before.length ++ replicate n nil

-- ---- all tables

abbrev pub table_at : List Held → ℕ → List ℕ
table_at hs s = slice_index_or (map table_of hs) s []

pub record IsWhole (h : Held) : Type 0 where
  pub sized : length h.table ≡ blocks_for h.length
  pub fits : h.length < 2 ^ 64
  pub closed : h.live ≡ false → h.length ≡ 0

pub record IsSound (blocks : Blocks) (hs : List Held) : Type 0 where
  pub whole : All IsWhole hs
  pub full : (s j : ℕ) → j < length (table_at hs s)
      → length (values_at blocks (slice_index_or (table_at hs s) j 0)) ≡ 64
  pub apart : (s t i j : ℕ) → i < length (table_at hs s) → j < length (table_at hs t)
      → slice_index_or (table_at hs s) i 0 ≡ slice_index_or (table_at hs t) j 0 → (s ≡ t) × (i ≡ j)
  pub total : sum_by length (map table_of hs) ≡ live_blocks blocks
