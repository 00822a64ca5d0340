-- What the commands that show a file do.
use Rattle.std.specs.Prelude.{◌≡◌, ℕ, List, Some, Result, Ok, Err}
use Rattle.rb_base.specs.declared.outside.Failed.{Failed}
use Rattle.rb_base.specs.Result.{◌>>=◌}
use Rattle.rite_code.specs.Code.{Program}
use Rattle.rite_file.specs.declared.error.LoadError.{LoadError}
use Rattle.rite_file.specs.Loaded.{loaded}
use Rattle.rite_file.specs.Refusal.{refusal_of}
use Rattle.code_listing.specs.Listing.{listing_of}
use Rattle.rb_refusal.specs.Writing.{Stream, Says}
use Rattle.rb_refusal.specs.declared.refusal.Refusal.{Refusal}
use Rattle.file_maker.specs.Disk.{Disk, Untouched, LoadFailed, IsBytes}
use Rattle.rite_tool.specs.Told.{Silent}
use Rattle.rite_tool.specs.declared.stop.Stop.{Stop}
use Rattle.rite_tool.specs.declared.stop.Stop.TheVariants as stops

-- the listing of the program that the bytes of a file are
abbrev pub listed : List ℕ → Result (List ℕ) LoadError
listed bytes = loaded bytes >>= λ p. Ok (listing_of p)

-- what the bytes of the file are to give
abbrev pub Gives : {A : Type 0} → (List ℕ → Result A LoadError) → Disk → List ℕ → A → Type 0
Gives read before file x = (bytes : List ℕ) × IsBytes before file bytes × (read bytes ≡ Ok x)

-- the refusal that they are to give
abbrev pub IsRefusedFor : {A : Type 0} → (List ℕ → Result A LoadError) → Disk → List ℕ → Refusal → Type 0
IsRefusedFor read before file r =
    (bytes : List ℕ) × (e : LoadError)
    × IsBytes before file bytes × (read bytes ≡ Err e) × (refusal_of e ≡ Some r)

-- why a file gives nothing
abbrev pub NotRead : {A : Type 0} → (List ℕ → Result A LoadError) → Disk → Disk → List ℕ → Stop → Type 0
NotRead read before after file (stops.Refused r) = IsRefusedFor read before file r × Untouched before after
NotRead read before after file stops.FileFault = LoadFailed before after file
NotRead read before after file stops.NoMemory = Untouched before after

-- the program of a file
abbrev pub Loads : Disk → Disk → List ℕ → Result Program Stop → Type 0
Loads before after file (Ok p) = Gives loaded before file p × Untouched before after
Loads before after file (Err stop) = NotRead loaded before after file stop

-- a text of a file goes out, whole or in part, or nothing does
abbrev pub Shows : (List ℕ → Result (List ℕ) LoadError) → Disk → Disk → Stream → Stream → List ℕ
    → Result (Result Unit Failed) Stop → Type 0
Shows shown before after given left file (Ok said) =
    (text : List ℕ) × Gives shown before file text × Untouched before after × Says text given left said
Shows shown before after given left file (Err stop) = NotRead shown before after file stop × Silent given left
