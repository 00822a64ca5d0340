-- Windows, and while they are good.
use Rattle.std.specs.Prelude.{◌≡◌, ℕ, ◌+◌, ◌-◌, ◌*◌, ◌/◌, ◌%◌, ◌<◌, List, [], ◌∷◌, length, drop, min, nat_eq, if◌then◌else◌}
use Rattle.std.specs.List.{slice_index_or}
use Rattle.stack_bank.specs.Bank.{Bank, table}
use Rattle.stack_bank.specs.declared.window.Window.{Window}

-- The first slots of the window stand in blocks of its stack, at places that follow one another: place 64 b + i is
-- place i of block b. A window that reaches does so after every call that keeps these blocks in the table.
pub record Reaches (bank : Bank) (window : Window) : Type 0 where
  pub within : (i : ℕ) → i < window.near → (window.base + i) / 64 < length (table bank window.id.0)
  pub place : (i : ℕ) → i < window.near → window.start + i ≡ 64 * slice_index_or (table bank window.id.0)
      ((window.base + i) / 64) 0 + (window.base + i) % 64

-- ---- how far a window reaches

-- how many of the blocks follow block b, and one another, by number
unfoldable pub following : ℕ → List ℕ → ℕ
following b [] = 0
following b (x ∷ blocks) = if nat_eq x (b + 1) then following x blocks + 1 else 0

-- the last block of a table up to which each follows the one before, from its block j on
abbrev pub run_last : List ℕ → ℕ → ℕ
run_last table j = j + following (slice_index_or table j 0) (drop (j + 1) table)

-- how many of the n slots from base on stand in blocks that follow one another
abbrev pub near_slots : List ℕ → ℕ → ℕ → ℕ
near_slots table base n = min n (64 * (run_last table (base / 64) + 1) - base)
