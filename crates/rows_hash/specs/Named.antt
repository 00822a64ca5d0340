-- The methods by the segments of their classes and their names.
use Rattle.std.specs.Prelude.{ℕ, List, [], ◌∷◌, codes, nat_eq, if◌then◌else◌}
use Rattle.rows_hash.specs.declared.rows.HashRow.{HashRow}
use Rattle.rows_hash.specs.declared.rows.HashRow.TheVariants as row

unfoldable pub hash_rows : List (List ℕ × HashRow)
hash_rows =
    (codes "[]=", row.Store) ∷
    (codes "store", row.Store) ∷
    (codes "key?", row.HasKey) ∷
    (codes "has_key?", row.HasKey) ∷
    (codes "include?", row.HasKey) ∷
    (codes "member?", row.HasKey) ∷
    (codes "keys", row.Keys) ∷
    (codes "values", row.Values) ∷
    (codes "length", row.Length) ∷
    (codes "size", row.Length) ∷
    (codes "empty?", row.IsEmpty) ∷
    (codes "delete", row.Delete) ∷
    (codes "merge", row.Merge) ∷
    (codes "merge!", row.Update) ∷
    (codes "update", row.Update) ∷
    (codes "invert", row.Invert) ∷
    (codes "clear", row.Clear) ∷
    (codes "default", row.Default) ∷
    (codes "default=", row.SetDefault) ∷
    (codes "to_h", row.ToHash) ∷
    []

-- those of a segment
abbrev pub rows : ℕ → List (List ℕ × HashRow)
rows s = if nat_eq s 28 then hash_rows
    else ([])
