-- Which programs a file can hold.
use Rattle.std.specs.Prelude.{◌≡◌, ◌≢◌, ◌⊎◌, ◌<◌, ◌≤◌, ◌^◌, ℕ, ◌+◌, List, [], ◌∷◌, ◌++◌, length}
use Rattle.std.specs.Prelude.{All}
use Rattle.rite_code.specs.declared.code.Irep.{Irep}
use Rattle.rite_code.specs.declared.code.PoolItem.{PoolItem}
use Rattle.rite_code.specs.declared.code.PoolItem.TheVariants.{Int, Text}

-- a program, as contracts see it
pub record Program : Type 0 where
  pub version : ℕ
  pub bodies : List Irep

abbrev pub program : ℕ → List Irep → Program
program version bodies = record { version = version; bodies = bodies }

-- no two entries are equal: each differs from all after it
abbrev pub AreDistinct : {A : Type 0} → List A → Type 0
AreDistinct [] = Unit
AreDistinct (x ∷ xs) = All (λ y. x ≢ y) xs × AreDistinct xs

-- the length of a text fits four bytes
abbrev pub IsText : List ℕ → Type 0
IsText bytes = length bytes < 2 ^ 32

abbrev pub IsItem : PoolItem → Type 0
IsItem (Int n) = Unit
IsItem (Text bytes) = IsText bytes

-- what the fields of a record hold: self has a register, locals are registers, files of version 1 have at most
-- 256 of them, and nothing stands twice in the pool or among the symbols
pub record IsBody (version : ℕ) (b : Irep) : Type 0 where
  pub has_self : 0 < b.locals
  pub locals : b.locals ≤ b.registers
  pub narrow : (version ≡ 1) → b.registers ≤ 256
  pub code : length b.code < 2 ^ 32
  pub catches : length b.catches < 2 ^ 16
  pub pool_count : length b.pool < 2 ^ 16
  pub pool_items : All IsItem b.pool
  pub pool : AreDistinct b.pool
  pub symbol_count : length b.symbols < 2 ^ 16
  pub symbol_texts : All IsText b.symbols
  pub symbols : AreDistinct b.symbols
  pub child_count : length b.children < 2 ^ 16

-- The bodies from number `at` on are trees with these roots, one after the other: the children of a body are
-- the first roots of what stands after it.
pub data IsForest : ℕ → List Irep → List ℕ → Type 0 where
  none : {at : ℕ} → IsForest at [] []
  node : {at : ℕ} {b : Irep} {bs : List Irep} {others : List ℕ} → IsForest (at + 1) bs (b.children ++ others)
      → IsForest at (b ∷ bs) (at ∷ others)

-- one tree of at most 65,536 bodies
pub record IsWhole (p : Program) : Type 0 where
  pub version : (p.version ≡ 1) ⊎ (p.version ≡ 2)
  pub count : length p.bodies ≤ 65536
  pub each : All (IsBody p.version) p.bodies
  pub tree : IsForest 0 p.bodies (0 ∷ [])
