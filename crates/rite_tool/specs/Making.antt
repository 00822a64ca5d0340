-- From a source to its file.
use Rattle.std.specs.Prelude.{◌≡◌, ◌⊎◌, ℕ, List, Some, IsTrue, Result, Ok, Err, Vec}
use Rattle.std.specs.declared.alloc.Global.{Global}
use Rattle.path_core.specs.Form.{Form}
use Rattle.rite_code.specs.Code.{Program, IsWhole}
use Rattle.rb_compile.specs.Language.{program_of}
use Rattle.rb_compile.specs.Compiled.{Refuses}
use Rattle.rb_compile.specs.Refusal.{refusal_of}
use Rattle.rb_compile.specs.declared.error.CompileError.{CompileError}
use Rattle.rite_file.specs.File.{Spells}
use Rattle.code_verifier.specs.Verified.{IsVerified}
use Rattle.code_generator.specs.Implements.{Implements}
use Rattle.rb_refusal.specs.declared.refusal.Refusal.{Refusal}
use Rattle.file_maker.specs.Disk.{Disk, SameFilesBut, NoFileFault, Untouched, LoadFailed, StoreFailed, IsSource}
use Rattle.rite_tool.specs.declared.stop.Stop.{Stop}
use Rattle.rite_tool.specs.declared.stop.Stop.TheVariants as stops

-- Bytes that are a file of code. It is whole and of version 2, passes the verifier and implements the text. Whole
-- programs with the same file are equal, so it is the code that the bytes give back.
pub record Encodes (text bytes : List ℕ) (code : Program) : Type 0 where
  pub form : Form
  pub program : program_of text ≡ Some form
  pub implements : Implements code form
  pub whole : IsWhole code
  pub version : code.version ≡ 2
  pub verified : IsVerified code
  pub spelled : Spells bytes code

abbrev pub EncodesAs : List ℕ → Result (Vec ℕ Global) CompileError → Type 0
EncodesAs text (Ok bytes) = (code : Program) × Encodes text bytes.items code
EncodesAs text (Err error) = Refuses text error

-- the file under the second name is one of this code of the source under the first name, and every other file stays
pub record Built (before after : Disk) (source file : List ℕ) (code : Program) : Type 0 where
  pub text : List ℕ
  pub is_source : IsSource before source text
  pub bytes : List ℕ
  pub encodes : Encodes text bytes code
  pub stored : IsTrue before.tells → after.file file ≡ Some bytes
  pub others : SameFilesBut file before after
  pub no_fault : NoFileFault before after

-- the source is refused for a cause of the compiler
abbrev pub IsRefused : Disk → List ℕ → Refusal → Type 0
IsRefused before source r =
    (text : List ℕ) × (e : CompileError)
    × IsSource before source text × Refuses text e × (refusal_of e ≡ Some r)

-- why no file was made
abbrev pub NotPrepared : Disk → Disk → List ℕ → Stop → Type 0
NotPrepared before after source (stops.Refused r) = IsRefused before source r × Untouched before after
NotPrepared before after source stops.FileFault = LoadFailed before after source
NotPrepared before after source stops.NoMemory = Untouched before after

abbrev pub NotMade : Disk → Disk → List ℕ → List ℕ → Stop → Type 0
NotMade before after source file (stops.Refused r) = IsRefused before source r × Untouched before after
NotMade before after source file stops.FileFault = LoadFailed before after source ⊎ StoreFailed before after file
NotMade before after source file stops.NoMemory = Untouched before after

-- the bytes of the file of a source, and nothing done
abbrev pub Prepares : Disk → Disk → List ℕ → Result (Vec ℕ Global) Stop → Type 0
Prepares before after source (Ok bytes) =
    (text : List ℕ) × (code : Program) × IsSource before source text × Encodes text bytes.items code
    × Untouched before after × (after.tells ≡ before.tells)
Prepares before after source (Err stop) = NotPrepared before after source stop

-- a file gets these bytes, or the store failed
abbrev pub Stores : Disk → Disk → List ℕ → List ℕ → Result Unit Stop → Type 0
Stores before after file bytes (Ok done) =
    (IsTrue before.tells → after.file file ≡ Some bytes) × SameFilesBut file before after × NoFileFault before after
Stores before after file bytes (Err stop) = (stop ≡ stops.FileFault) × StoreFailed before after file

-- this program, unless memory runs out
abbrev pub Checks : Program → Result Program Stop → Type 0
Checks p (Ok verified) = verified ≡ p
Checks p (Err stop) = stop ≡ stops.NoMemory

-- the program whose file was stored
abbrev pub Makes : Disk → Disk → List ℕ → List ℕ → Result Program Stop → Type 0
Makes before after source file (Ok code) = Built before after source file code
Makes before after source file (Err stop) = NotMade before after source file stop

abbrev pub Builds : Disk → Disk → List ℕ → List ℕ → Result Unit Stop → Type 0
Builds before after source file (Ok done) = (code : Program) × Built before after source file code
Builds before after source file (Err stop) = NotMade before after source file stop
