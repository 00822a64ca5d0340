-- What is stored of the source in a file, and what is read of a file of code.
use Rattle.std.specs.Prelude.{◌≡◌, ◌⊎◌, ℕ, List, IsTrue, Option, Some, None, Result, Ok, Err}
use Rattle.rb_refusal.specs.declared.refusal.Refusal.{Refusal}
use Rattle.ir_core.specs.CoreForm.{Body}
use Rattle.rb_front.specs.Front.{core_of}
use Rattle.rite_code.specs.Code.{Program}
use Rattle.file_maker.specs.Disk.{Disk, SameFilesBut, NoFileFault, Untouched, LoadFailed, StoreFailed, IsSource, IsBytes}
use Rattle.file_maker.specs.Making.{IsMade, IsChecked, IsFileOf}
use Rattle.file_maker.specs.declared.made.Made.TheVariants as made
use Rattle.file_maker.specs.declared.storing.NotMade.{NotMade}
use Rattle.file_maker.specs.declared.storing.NotMade.TheVariants.{Refused, FileFault, NoMemory}

-- the file holds the bytes of the file of the source's text, which spell that code; no other file changed, no call failed
abbrev pub IsStored : Disk → Disk → List ℕ → List ℕ → Program → Type 0
IsStored before after source file code =
    (text : List ℕ) × (c : Body) × (bytes : List ℕ) × IsSource before source text × (core_of text ≡ Some c)
    × IsFileOf c bytes code × (IsTrue before.tells → after.file file ≡ Some bytes)
    × SameFilesBut file before after × NoFileFault before after

-- the source's text is refused, and nothing is done
abbrev pub IsRefused : Disk → Disk → List ℕ → Refusal → Type 0
IsRefused before after source cause =
    (text : List ℕ) × IsSource before source text × IsMade text (made.Refused cause) × Untouched before after

-- the source can't be read, or nothing is done
abbrev pub IsLeft : Disk → Disk → List ℕ → Type 0
IsLeft before after source = LoadFailed before after source ⊎ Untouched before after

-- Nothing is stored; the text is refused; the store failed; memory ran out; or the file of the text is stored.
abbrev pub Stores : Disk → Disk → List ℕ → List ℕ → Option (Result Program NotMade) → Type 0
Stores before after source file None = IsLeft before after source
Stores before after source file (Some (Err (Refused cause))) = IsRefused before after source cause
Stores before after source file (Some (Err FileFault)) = StoreFailed before after file
Stores before after source file (Some (Err NoMemory)) = Untouched before after
Stores before after source file (Some (Ok code)) = IsStored before after source file code

-- that becomes of the bytes of the file, and nothing is done
abbrev pub IsRead : Disk → Disk → List ℕ → Result Program Refusal → Type 0
IsRead before after file outcome =
    (bytes : List ℕ) × IsBytes before file bytes × IsChecked bytes outcome × Untouched before after

-- verified code that the file spells, or why there is none
abbrev pub Loads : Disk → Disk → List ℕ → Result Program NotMade → Type 0
Loads before after file (Ok code) = IsRead before after file (Ok code)
Loads before after file (Err (Refused cause)) = IsRead before after file (Err cause)
Loads before after file (Err FileFault) = LoadFailed before after file
Loads before after file (Err NoMemory) = Untouched before after
