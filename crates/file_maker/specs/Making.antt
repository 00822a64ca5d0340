-- What becomes of a text, and of the bytes of a file.
use Rattle.std.specs.Prelude.{◌≡◌, ◌≢◌, ◌⊎◌, ℕ, List, true, is_some, Option, Some, None, Result, Ok, Err}
use Rattle.rb_refusal.specs.declared.refusal.Refusal.{Refusal}
use Rattle.rb_refusal.specs.declared.refusal.Refusal.TheVariants as refusals
use Rattle.ir_core.specs.CoreForm.{Body}
use Rattle.ir_counts.specs.Counts.{need}
use Rattle.ir_counts.specs.Limits.{first_excess}
use Rattle.ir_counts.specs.declared.excess.Excess.{Excess}
use Rattle.rb_front.specs.Front as front
use Rattle.rb_front.specs.Front.{core_of}
use Rattle.rb_front.specs.declared.error.FrontError.{FrontError}
use Rattle.rb_front.specs.declared.error.FrontError.TheVariants.{NoMemory}
use Rattle.rite_code.specs.Code.{Program, program as of_bodies}
use Rattle.rite_file.specs.File.{canonical}
use Rattle.rite_file.specs.Loaded.{loaded}
use Rattle.rite_file.specs.Refusal as files
use Rattle.rite_file.specs.declared.error.LoadError.{LoadError}
use Rattle.code_verifier.specs.Checks.{Bad, first_bad}
use Rattle.code_verifier.specs.Verified.{IsVerified}
use Rattle.code_generator.specs.Built.{code_built}
use Rattle.gen_forms.specs.Making.{coded_program}
use Rattle.def_eval.specs.Source.{source_of}
use Rattle.step_laws.specs.Implements.{Implements}
use Rattle.step_laws.specs.Plain.{IsPlainProgram}
use Rattle.file_maker.specs.declared.made.Made.{Made}
use Rattle.file_maker.specs.declared.made.Made.TheVariants.{FirstPath, Refused, File}

-- why a file is refused: it spells no program, or the first check that fails in it
abbrev pub refusal_of_check : Option Bad → Option Refusal
refusal_of_check None = None
refusal_of_check (Some bad) = Some (refusals.Bad bad.irep bad.at bad.cause)

abbrev pub refusal_of_file : Result Program LoadError → Option Refusal
refusal_of_file (Err e) = files.refusal_of e
refusal_of_file (Ok p) = refusal_of_check (first_bad p)

-- the bytes spell that verified code, or are refused for that cause
abbrev pub IsChecked : List ℕ → Result Program Refusal → Type 0
IsChecked bytes (Ok code) = (loaded bytes ≡ Ok code) × IsVerified code
IsChecked bytes (Err cause) = refusal_of_file (loaded bytes) ≡ Some cause

-- the program of a core: its bodies, of version 2; and the file of it
abbrev pub code_of : Body → Program
code_of c = of_bodies 2 (coded_program c)

abbrev pub file_of : Body → List ℕ
file_of c = canonical (code_of c)

-- a core is refused for its first count past the limit, and for nothing else
abbrev pub IsPastLimit : Body → Refusal → Type 0
IsPastLimit c cause = (e : Excess) × (first_excess (need c) ≡ Some e) × (cause ≡ refusals.TooLarge e.what e.count)

-- if the core is that of a program of plain forms, the code implements its source for every input
abbrev pub MeansItsSource : Body → Program → Type 0
MeansItsSource c code = IsPlainProgram c → (input : List ℕ) → Implements (source_of c) code input

-- the bytes are the file of the core, which spells its code; that is verified, and means what the source means
abbrev pub IsFileOf : Body → List ℕ → Program → Type 0
IsFileOf c bytes code = (code_built c ≡ None) × (first_excess (need c) ≡ None) × (bytes ≡ file_of c)
    × (code ≡ code_of c) × (loaded (file_of c) ≡ Ok code) × IsVerified code × MeansItsSource c code

-- what becomes of a core: it has no form beyond those of the first path; it is refused; or it has its file
abbrev pub IsMadeOf : Body → Made → Type 0
IsMadeOf c FirstPath = is_some (code_built c) ≡ true
IsMadeOf c (Refused cause) = (code_built c ≡ None) × IsPastLimit c cause
IsMadeOf c (File bytes code) = IsFileOf c bytes.items code

-- a file that is made
abbrev pub HasFile : Body → Made → Type 0
HasFile c FirstPath = ⊥
HasFile c (Refused cause) = ⊥
HasFile c (File bytes code) = IsFileOf c bytes.items code

abbrev pub HasCore : List ℕ → Made → Type 0
HasCore text made = (c : Body) × (core_of text ≡ Some c) × IsMadeOf c made

abbrev pub IsRefused : List ℕ → Type 0
IsRefused text = (e : FrontError) × (e ≢ NoMemory) × front.Refuses text e

-- what becomes of a text
abbrev pub IsMade : List ℕ → Made → Type 0
IsMade text FirstPath = IsRefused text ⊎ HasCore text FirstPath
IsMade text (Refused cause) = HasCore text (Refused cause)
IsMade text (File bytes code) = HasCore text (File bytes code)
