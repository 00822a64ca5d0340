-- The file of a program, as it is put together.
use Rattle.std.proofs.Common.{◌≡◌, ℕ, ◌+◌, List, ◌++◌, length, sym, ap, ◌∙◌, arith, length-append}
use Rattle.std.specs.Prelude.{codes}
use Rattle.std.specs.List.{flat_map}
use Rattle.std.specs.Int.{to_be_bytes, w32}
use Rattle.rite_code.specs.Code.{Program}
use Rattle.rite_file.specs.File.{irep_name, irep_section, end_section, record_of, version_name, canonical}
use Rattle.rite_file.specs.Written.{front}

-- the file with any two sizes
abbrev with_sizes : ℕ → ℕ → ℕ → List ℕ → List ℕ
with_sizes whole inner version records = codes "RITE0300"
    ++ (to_be_bytes w32 whole
    ++ (codes "RBWN" ++ (version_name version
    ++ (irep_name ++ (to_be_bytes w32 inner ++ (codes "0300" ++ (records ++ end_section)))))))

sections_length : (p : Program)
    → length (irep_section p.bodies ++ end_section) + 20 ≡ length (flat_map record_of p.bodies) + 40
sections_length p = omega (arith, length-append (flat_map record_of p.bodies) end_section)

pub length-canonical : (p : Program) → length (canonical p) ≡ length (flat_map record_of p.bodies) + 40
unfolding canonical
length-canonical p = omega (arith, length-append (flat_map record_of p.bodies) end_section)

pub canonical_parts : (p : Program)
    → (front p.version (length (flat_map record_of p.bodies)) ++ flat_map record_of p.bodies) ++ end_section
    ≡ canonical p
unfolding canonical
canonical_parts p =
    let records : List ℕ = flat_map record_of p.bodies in
    let inner : length (codes "0300" ++ records) + 8 ≡ length records + 12 = omega arith in
    sym (ap (λ (n : ℕ). with_sizes n (length (codes "0300" ++ records) + 8) p.version records) (sections_length p)
    ∙ ap (λ (n : ℕ). with_sizes (length records + 40) n p.version records) inner)
