-- Which bytes are the file of a program. All numbers are big-endian.
use Rattle.std.specs.Prelude.{◌≡◌, ℕ, ℤ, pos, negsuc, ◌+◌, ◌^◌, ◌<◌, All, Bool, true, false, List, [], ◌∷◌, ◌++◌, length, flat_map, codes}
use Rattle.std.specs.Int.{to_be_bytes, cast_unsigned, w16, w32, w64}
use Rattle.rite_code.specs.Code.{Program}
use Rattle.rite_code.specs.declared.code.Irep.{Irep}
use Rattle.rite_code.specs.declared.code.CatchEntry.{CatchEntry}
use Rattle.rite_code.specs.declared.code.PoolItem.{PoolItem}
use Rattle.rite_code.specs.declared.code.PoolItem.TheVariants.{Int, Text}

-- ---- a record

-- a text: its length in four bytes, and its bytes
abbrev pub text : List ℕ → List ℕ
text bytes = to_be_bytes w32 (length bytes) ++ bytes

-- the kind of a catch entry
abbrev pub kind : Bool → ℕ
kind true = 0
kind false = 1

abbrev pub catch_entry : CatchEntry → List ℕ
catch_entry c = kind c.rescue ∷ (to_be_bytes w32 c.begin ++ (to_be_bytes w32 c.end ++ to_be_bytes w32 c.target))

-- a pool entry: a text after the tag 0, or an integer in two's complement after the tag 1
abbrev pub pool_item : PoolItem → List ℕ
pool_item (Text bytes) = 0 ∷ text bytes
pool_item (Int n) = 1 ∷ to_be_bytes w64 (cast_unsigned w64 n)

-- a count in two bytes, and what is counted
abbrev pub counted : {A : Type 0} → (A → List ℕ) → List A → List ℕ
counted spelled xs = to_be_bytes w16 (length xs) ++ flat_map spelled xs

-- locals, registers, children and catch entries
abbrev pub counts : Irep → List ℕ
counts b = to_be_bytes w16 b.locals
    ++ (to_be_bytes w16 b.registers ++ (to_be_bytes w16 (length b.children) ++ to_be_bytes w16 (length b.catches)))

-- a record after its size: the counts, the code, the catch entries, the pool and the symbols
abbrev pub fields : Irep → List ℕ
fields b = counts b
    ++ (text b.code ++ (flat_map catch_entry b.catches ++ (counted pool_item b.pool ++ counted text b.symbols)))

-- the size of a record counts itself
unfoldable pub record_of : Irep → List ℕ
record_of b = to_be_bytes w32 (length (fields b) + 4) ++ fields b

-- ---- sections

abbrev pub irep_name : List ℕ
irep_name = codes "IREP"

abbrev pub end_name : List ℕ
end_name = codes "END" ++ 0 ∷ []

abbrev pub debug_name : List ℕ
debug_name = codes "DBG" ++ 0 ∷ []

abbrev pub locals_name : List ℕ
locals_name = codes "LVAR"

-- a section: its name, its size with the eight bytes of both, and its contents
abbrev pub section : List ℕ → List ℕ → List ℕ
section name contents = name ++ (to_be_bytes w32 (length contents + 8) ++ contents)

-- the records, depth first
abbrev pub irep_section : List Irep → List ℕ
irep_section bodies = section irep_name (codes "0300" ++ flat_map record_of bodies)

abbrev pub end_section : List ℕ
end_section = section end_name []

-- sections that a reader passes over, one after the other
pub data AreSkipped : List ℕ → Type 0 where
  none : AreSkipped []
  debug : (contents others : List ℕ) → AreSkipped others → AreSkipped (section debug_name contents ++ others)
  locals : (contents others : List ℕ) → AreSkipped others → AreSkipped (section locals_name contents ++ others)

-- ---- what fields hold

-- an integer of 64 bits
abbrev pub IsInteger : ℤ → Type 0
IsInteger (pos n) = n < 2 ^ 63
IsInteger (negsuc n) = n < 2 ^ 63

abbrev pub IsHeldItem : PoolItem → Type 0
IsHeldItem (Int n) = IsInteger n
IsHeldItem (Text bytes) = Unit

pub record IsHeldEntry (c : CatchEntry) : Type 0 where
  pub begin : c.begin < 2 ^ 32
  pub end : c.end < 2 ^ 32
  pub target : c.target < 2 ^ 32

-- the numbers of a body are of the sizes of their fields
pub record IsHeld (b : Irep) : Type 0 where
  pub locals : b.locals < 2 ^ 16
  pub registers : b.registers < 2 ^ 16
  pub catches : All IsHeldEntry b.catches
  pub pool : All IsHeldItem b.pool

-- ---- files

-- the version of the compiler, `0001` or `0002`
abbrev pub version_name : ℕ → List ℕ
version_name version = codes "000" ++ (48 + version) ∷ []

-- header and sections; the header has the size of the whole file
abbrev pub file_of : ℕ → List ℕ → List ℕ
file_of version sections = codes "RITE0300"
    ++ (to_be_bytes w32 (length sections + 20) ++ (codes "RBWN" ++ (version_name version ++ sections)))

-- the one file without sections to skip
unfoldable pub canonical : Program → List ℕ
canonical p = file_of p.version (irep_section p.bodies ++ end_section)

-- The bytes are a file of the program: besides its records there are sections to skip, before and after them.
pub record Spells (bytes : List ℕ) (p : Program) : Type 0 where
  pub before : List ℕ
  pub behind : List ℕ
  pub before_skipped : AreSkipped before
  pub behind_skipped : AreSkipped behind
  pub same : bytes ≡ file_of p.version (before ++ (irep_section p.bodies ++ (behind ++ end_section)))
  pub size : length bytes < 2 ^ 32
  pub held : All IsHeld p.bodies
