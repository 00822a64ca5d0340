-- What a file is: its header and its sections, a line each.
use Rattle.std.specs.Prelude.{◌≡◌, ℕ, List, [], ◌∷◌, ◌++◌, Result, Ok, Err, nat_eq, slice_index, take, codes, decimal, flat_map, if◌then◌else◌}
use Rattle.rb_base.specs.Outside.{Rose, with_more, TookFront}
use Rattle.rite_file.specs.declared.error.LoadError.{LoadError}
use Rattle.rite_file.specs.declared.front.Header.{Header}
use Rattle.rite_file.specs.declared.front.Section.{Section}
use Rattle.rite_file.specs.Front.{header_of, sections_of}
use Rattle.rb_base.specs.Result.{◌>>=◌}
use Rattle.code_listing.specs.declared.info_fault.InfoFault.{InfoFault}
use Rattle.code_listing.specs.declared.info_fault.InfoFault.TheVariants.{Refused, Failed}
use Rattle.rb_refusal.specs.Writing.{Stream}
use Rattle.code_listing.specs.Listing.{line}
use Rattle.rb_refusal.specs.RefusalText.{visible_name}

unfoldable pub header_line : Header → List ℕ
header_line h =
    line (codes "RITE 0300 size "
    ++ (decimal h.size ++ (codes " compiler " ++ (visible_name h.name ++ (codes " " ++ visible_name h.version)))))

-- an identifier, without a last zero byte
abbrev pub section_name : List ℕ → List ℕ
section_name id = take (if nat_eq (slice_index id 3) 0 then 3 else 4) (visible_name id)

unfoldable pub section_line : Section → List ℕ
section_line s = line (section_name s.id ++ (codes " " ++ decimal s.size))

-- the sections up to the first that doesn't fit
unfoldable pub fitting : List (Result Section LoadError) → List Section
fitting [] = []
fitting (Ok s ∷ rest) = s ∷ fitting rest
fitting (Err e ∷ rest) = []

-- the error of the first that doesn't fit
unfoldable pub first_error : List (Result Section LoadError) → Result Unit LoadError
first_error [] = Ok tt
first_error (Ok s ∷ rest) = first_error rest
first_error (Err e ∷ rest) = Err e

abbrev pub lines_of : List (Result Section LoadError) → Header → List ℕ
lines_of sections h = header_line h ++ flat_map section_line (fitting sections)

-- the header of a file of which every section fits
abbrev pub checked : List ℕ → Result Header LoadError
checked bytes = header_of bytes >>= λ h. first_error (sections_of bytes) >>= λ u. Ok h

-- the text, or the error of the header or of the first section that doesn't fit
abbrev pub info_of : List ℕ → Result (List ℕ) LoadError
info_of bytes = checked bytes >>= λ h. Ok (lines_of (sections_of bytes) h)

-- the text that was meant went out whole, or a call failed and a front of it went out; or an error was meant, and
-- nothing went out
abbrev pub Informs : Result (List ℕ) LoadError → Stream → Stream → Result Unit InfoFault → Type 0
Informs meant before after (Ok done) = (text : List ℕ) × (meant ≡ Ok text)
    × (after.taken ≡ with_more before.taken text) × (after.faults ≡ before.faults)
Informs meant before after (Err (Refused e)) = (meant ≡ Err e) × (after.taken ≡ before.taken)
    × (after.faults ≡ before.faults)
Informs meant before after (Err Failed) = (text : List ℕ) × (meant ≡ Ok text) × TookFront before.taken after.taken
    text × Rose before.faults after.faults
