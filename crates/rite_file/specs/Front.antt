-- The header of a file and its sections.
use Rattle.std.specs.Prelude.{ℕ, zero, suc, ◌+◌, ◌-◌, Bool, false, not, List, [], ◌∷◌, length, take, drop, Result, Ok, Err, nat_lt, if◌then◌else◌, codes}
use Rattle.std.specs.Int.{from_be_bytes, w32}
use Rattle.std.specs.Str.{bytes_eq}
use Rattle.rite_file.specs.declared.error.LoadError.{LoadError}
use Rattle.rite_file.specs.declared.error.LoadError.TheVariants.{NotRite, Foreign, Truncated, BadSection}
use Rattle.rite_file.specs.declared.front.Header.{Header}
use Rattle.rite_file.specs.declared.front.Section.{Section}
use Rattle.rb_base.specs.Result.{◌>>=◌}

-- four bytes at a place
unfoldable pub four_at : List ℕ → ℕ → List ℕ
four_at bytes at = take 4 (drop at bytes)

-- ---- the header

-- what the first 20 bytes say
unfoldable pub front_of : List ℕ → Result Header LoadError
front_of bytes =
    if not (bytes_eq (take 8 bytes) (codes "RITE0300")) then Err NotRite
    else if nat_lt (length bytes) 20 then Err (Truncated (length bytes))
    else Ok (record { size = from_be_bytes w32 (four_at bytes 8); name = four_at bytes 12; version = four_at bytes 16 })

-- the size of the header is that of the file
unfoldable pub sized : List ℕ → Header → Result Header LoadError
sized bytes h =
    if nat_lt (length bytes) h.size then Err (Truncated (length bytes))
    else if nat_lt h.size (length bytes) then Err (BadSection h.size)
    else Ok h

unfoldable pub header_of : List ℕ → Result Header LoadError
header_of bytes = front_of bytes >>= sized bytes

-- the version of the code that the compiler named made
unfoldable pub version_of : Header → Result ℕ LoadError
version_of h =
    if not (bytes_eq h.name (codes "RBWN")) then Err (Foreign h.name)
    else if bytes_eq h.version (codes "0001") then Ok 1
    else if bytes_eq h.version (codes "0002") then Ok 2
    else Err (Foreign h.name)

-- ---- the sections

unfoldable pub section_at : List ℕ → ℕ → Section
section_at bytes at = record { id = four_at bytes at; at = at; size = from_be_bytes w32 (four_at bytes (at + 4)) }

-- eight bytes are left, and the size is at least 8 and doesn't pass the end
unfoldable pub fits_at : List ℕ → ℕ → Bool
fits_at bytes at =
    if nat_lt (length bytes - at) 8 then false
    else if nat_lt (section_at bytes at).size 8 then false
    else not (nat_lt (length bytes - at) (section_at bytes at).size)

-- the sections from a place on, at most so many; they end with the first that doesn't fit
unfoldable pub sections_from : ℕ → List ℕ → ℕ → List (Result Section LoadError)
sections_from zero bytes at = []
sections_from (suc most) bytes at =
    if nat_lt at (length bytes) then (
    if fits_at bytes at then Ok (section_at bytes at) ∷ sections_from most bytes (at + (section_at bytes at).size)
    else Err (BadSection at) ∷ []
    ) else []

-- there are fewer sections than bytes
unfoldable pub sections_of : List ℕ → List (Result Section LoadError)
sections_of bytes = sections_from (length bytes) bytes 20
