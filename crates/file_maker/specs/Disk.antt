-- What files tell at one moment, and what of it stays.
use Rattle.std.specs.Prelude.{◌≡◌, ◌≢◌, ℕ, List, Option, Bool, IsTrue}
use Rattle.rb_base.specs.Outside.{Rose, SameCounts, IsLoaded}

pub record Disk : Type 0 where
  -- whether the files tell what they hold, and what the file of a name holds
  pub tells : Bool
  pub file : List ℕ → Option (List ℕ)
  pub load_faults : List ℕ → ℕ
  pub store_faults : List ℕ → ℕ

abbrev pub SameFiles : Disk → Disk → Type 0
SameFiles before after = (name : List ℕ) → after.file name ≡ before.file name

abbrev pub SameFilesBut : List ℕ → Disk → Disk → Type 0
SameFilesBut but before after = (name : List ℕ) → name ≢ but → after.file name ≡ before.file name

-- no load and no store of a file failed
abbrev pub NoFileFault : Disk → Disk → Type 0
NoFileFault before after =
    SameCounts before.load_faults after.load_faults × SameCounts before.store_faults after.store_faults

abbrev pub Untouched : Disk → Disk → Type 0
Untouched before after = SameFiles before after × NoFileFault before after

-- a load of the file failed
abbrev pub LoadFailed : Disk → Disk → List ℕ → Type 0
LoadFailed before after file = Rose (before.load_faults file) (after.load_faults file) × SameFiles before after

-- a store of the file failed, after which only that file may differ
abbrev pub StoreFailed : Disk → Disk → List ℕ → Type 0
StoreFailed before after file =
    Rose (before.store_faults file) (after.store_faults file) × SameFilesBut file before after

-- the text of a source: what its file holds, up to 16777217 bytes, where the files tell
abbrev pub IsSource : Disk → List ℕ → List ℕ → Type 0
IsSource before source text = IsTrue before.tells → IsLoaded (before.file source) 16777217 text

-- what a file of code holds, up to 4294967296 bytes, where the files tell
abbrev pub IsBytes : Disk → List ℕ → List ℕ → Type 0
IsBytes before file bytes = IsTrue before.tells → IsLoaded (before.file file) 4294967296 bytes
