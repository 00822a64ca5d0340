-- The methods by the segments of their classes and their names.
use Rattle.std.specs.Prelude.{ℕ, List, [], ◌∷◌, codes, nat_eq, if◌then◌else◌}
use Rattle.rows_items.specs.declared.rows.ItemRow.{ItemRow}
use Rattle.rows_items.specs.declared.rows.ItemRow.TheVariants as row

-- of Array and of Hash
unfoldable pub list_rows : List (List ℕ × ItemRow)
list_rows =
    (codes "to_a", row.ToArray) ∷
    (codes "entries", row.Entries) ∷
    (codes "first", row.First) ∷
    (codes "take", row.Take) ∷
    (codes "drop", row.Drop) ∷
    (codes "min", row.Min) ∷
    (codes "max", row.Max) ∷
    (codes "sort", row.Sort) ∷
    (codes "uniq", row.Uniq) ∷
    (codes "tally", row.Tally) ∷
    (codes "zip", row.Zip) ∷
    []

-- of Range, whose `first` is a row of the table
unfoldable pub range_rows : List (List ℕ × ItemRow)
range_rows =
    (codes "to_a", row.ToArray) ∷
    (codes "entries", row.Entries) ∷
    (codes "take", row.Take) ∷
    (codes "drop", row.Drop) ∷
    (codes "min", row.Min) ∷
    (codes "max", row.Max) ∷
    (codes "sort", row.Sort) ∷
    (codes "uniq", row.Uniq) ∷
    (codes "tally", row.Tally) ∷
    (codes "zip", row.Zip) ∷
    []

-- those of a segment
abbrev pub rows : ℕ → List (List ℕ × ItemRow)
rows s = if nat_eq s 26 then list_rows
    else (if nat_eq s 28 then list_rows
    else (if nat_eq s 30 then range_rows
    else ([])))
