-- The methods by the segments of their classes and their names.
use Rattle.std.specs.Prelude.{ℕ, List, [], ◌∷◌, codes, nat_eq, if◌then◌else◌}
use Rattle.rows_array.specs.declared.rows.ArrayRow.{ArrayRow}
use Rattle.rows_array.specs.declared.rows.ArrayRow.TheVariants as row

unfoldable pub array_rows : List (List ℕ × ArrayRow)
array_rows =
    (codes "[]", row.Element) ∷
    (codes "slice", row.Element) ∷
    (codes "[]=", row.SetElement) ∷
    (codes "at", row.At) ∷
    (codes "values_at", row.ValuesAt) ∷
    (codes "last", row.Last) ∷
    (codes "push", row.Push) ∷
    (codes "append", row.Push) ∷
    (codes "<<", row.Append) ∷
    (codes "pop", row.Pop) ∷
    (codes "shift", row.Shift) ∷
    (codes "unshift", row.Unshift) ∷
    (codes "insert", row.Insert) ∷
    (codes "concat", row.Concat) ∷
    (codes "+", row.Plus) ∷
    (codes "length", row.Length) ∷
    (codes "size", row.Length) ∷
    (codes "empty?", row.IsEmpty) ∷
    (codes "delete_at", row.DeleteAt) ∷
    (codes "reverse", row.Reverse) ∷
    (codes "reverse!", row.ReverseInPlace) ∷
    (codes "sort!", row.SortInPlace) ∷
    (codes "rotate", row.Rotate) ∷
    (codes "flatten", row.Flatten) ∷
    (codes "compact", row.Compact) ∷
    (codes "transpose", row.Transpose) ∷
    (codes "fill", row.Fill) ∷
    (codes "clear", row.Clear) ∷
    (codes "replace", row.Replace) ∷
    []

-- those of a segment
abbrev pub rows : ℕ → List (List ℕ × ArrayRow)
rows s = if nat_eq s 26 then array_rows
    else ([])
