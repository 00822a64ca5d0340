-- What stands before the records of a file.
use Rattle.std.specs.Prelude.{ℕ, ◌+◌, List, ◌++◌, codes}
use Rattle.std.specs.Int.{to_be_bytes, w32}
use Rattle.rite_file.specs.File.{irep_name, version_name}

-- header and the section's head, for records of n bytes
abbrev pub front : ℕ → ℕ → List ℕ
front version n =
    codes "RITE0300"
    ++ (to_be_bytes w32 (n + 40)
    ++ (codes "RBWN" ++ (version_name version ++ (irep_name ++ (to_be_bytes w32 (n + 12) ++ codes "0300")))))
