-- The program of a file, or the first check that it fails.
use Rattle.std.specs.Prelude.{ℕ, ◌+◌, Bool, true, not, ◌&&◌, List, [], ◌∷◌, length, take, drop, Option, Some, None, Result, Ok, Err, nat_lt, nat_eq, if◌then◌else◌, codes}
use Rattle.std.specs.Str.{bytes_eq}
use Rattle.rite_code.specs.Code.{Program, program}
use Rattle.rite_code.specs.declared.code.Irep.{Irep}
use Rattle.rite_file.specs.declared.error.LoadError.{LoadError}
use Rattle.rite_file.specs.declared.error.LoadError.TheVariants.{BadSection, BadRecord}
use Rattle.rite_file.specs.declared.front.Section.{Section}
use Rattle.rite_file.specs.declared.records.Record.{Record}
use Rattle.rb_base.specs.Result.{◌>>=◌}
use Rattle.rite_file.specs.File.{irep_name, end_name, debug_name, locals_name}
use Rattle.rite_file.specs.Front.{four_at, front_of, sized, version_of, sections_of}
use Rattle.rite_file.specs.Record.{records_at}

-- ---- the sections of a program

-- a section to skip
unfoldable pub is_skipped : Section → Bool
is_skipped s = if bytes_eq s.id debug_name then true else bytes_eq s.id locals_name

-- the section of the records: the first of its name, and of version `0300`
unfoldable pub is_irep : List ℕ → Section → Bool
is_irep bytes s = bytes_eq s.id irep_name && (not (nat_lt s.size 12) && bytes_eq (four_at bytes (s.at + 8))
    (codes "0300"))

-- the last section, which is empty
unfoldable pub is_end : List ℕ → Section → Bool
is_end bytes s = bytes_eq s.id end_name && (nat_eq s.size 8 && nat_eq (s.at + 8) (length bytes))

-- the section of the records, which may have been found before, where each section after it is one to skip up to
-- the last section
unfoldable pub irep_in : List ℕ → Option Section → List (Result Section LoadError) → Result Section LoadError
irep_in bytes found [] = Err (BadSection (length bytes))
irep_in bytes found (Err e ∷ others) = Err e
irep_in bytes None (Ok s ∷ others) =
    if is_skipped s then irep_in bytes None others
    else if is_irep bytes s then irep_in bytes (Some s) others
    else Err (BadSection s.at)
irep_in bytes (Some irep) (Ok s ∷ others) =
    if is_skipped s then irep_in bytes (Some irep) others
    else if is_end bytes s then Ok irep
    else Err (BadSection s.at)

-- ---- the bodies of the records

abbrev pub with_children : Irep → List ℕ → Irep
with_children b children = record {
  locals = b.locals;
  registers = b.registers;
  code = b.code;
  catches = b.catches;
  pool = b.pool;
  symbols = b.symbols;
  children = children;
}

-- bodies from a number on, and the roots of the trees that they are
abbrev pub Forest : Type 0
Forest = List Irep × List ℕ

-- a body before the others of a forest takes the first roots as its children
abbrev pub planted : ℕ → Record → Forest → Forest
planted at r forest = (with_children r.body (take r.children forest.1) ∷ forest.0, at ∷ drop r.children forest.1)

unfoldable pub numbered : ℕ → List Record → Forest
numbered at [] = ([], [])
numbered at (r ∷ rs) = planted at r (numbered (at + 1) rs)

-- ---- the whole

unfoldable pub records_in : ℕ → List ℕ → Section → Result (List Record) LoadError
records_in version bytes s =
    let inside = take (s.at + s.size) bytes in
    records_at 65536 version [] 1 inside (s.at + 12) >>= λ rs. if nat_eq rs.1 (length inside) then Ok rs.0 else Err
    (BadRecord rs.1)

unfoldable pub program_in : ℕ → List ℕ → Section → Result Program LoadError
program_in version bytes s = records_in version bytes s >>= λ rs. Ok (program version (numbered 0 rs).0)

-- the version of the program, and the section of its records
unfoldable pub checked : List ℕ → Result (ℕ × Section) LoadError
checked bytes =
    front_of bytes >>= λ h.
    version_of h >>= λ version.
    sized bytes h >>= λ whole.
    irep_in bytes None (sections_of bytes) >>= λ s.
    Ok (version, s)

unfoldable pub loaded : List ℕ → Result Program LoadError
loaded bytes = checked bytes >>= λ found. program_in found.0 bytes found.1
