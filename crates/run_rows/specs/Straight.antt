-- What rows give straight on: of an Array, a Hash or a String what the row gives by its definition.
use Rattle.std.specs.Prelude.{List, [], ◌∷◌, Bool, false, Option, Some, None}
use Rattle.rb_value.specs.declared.value.Value.{Value}
use Rattle.rb_store.specs.Held.{Held}
use Rattle.row_table.specs.declared.line.CoreRow.{CoreRow}
use Rattle.row_table.specs.declared.line.CoreRow.TheVariants as core
use Rattle.rows_array.specs.declared.rows.ArrayRow.{ArrayRow}
use Rattle.rows_array.specs.declared.rows.ArrayRow.TheVariants as array
use Rattle.rows_array.specs.Directly as arrays
use Rattle.rows_hash.specs.Directly as hashes
use Rattle.straight_rows.specs.Straight as table
use Rattle.run_rows.specs.declared.row.Row.{Row}
use Rattle.run_rows.specs.declared.row.Row.TheVariants.{OfTable, Plain, Star}
use Rattle.run_rows.specs.declared.row.PlainRow.{PlainRow}
use Rattle.run_rows.specs.declared.row.PlainRow.TheVariants as plain

-- Without arguments.

abbrev pub read_plain : PlainRow → Held → Value → Option Value × Held
read_plain (plain.Array r) held recv = arrays.given r held recv []
read_plain (plain.Hash r) held recv = hashes.given r held recv []
read_plain _ held recv = (None, held)

abbrev pub read_of_table : CoreRow → Held → Value → Option Value × Held
read_of_table (core.String m) held recv = table.given (core.String m) held recv []
read_of_table _ held recv = (None, held)

abbrev pub read : Row → Held → Value → Option Value × Held
read (Plain r) held recv = read_plain r held recv
read (OfTable (Some r)) held recv = read_of_table r held recv
read (OfTable None) held recv = (None, held)
read (Star r) held recv = (None, held)

-- With arguments, where the receiver alone changes: `push` of one value is `<<`.

abbrev pub appending : ArrayRow → ArrayRow
appending array.Element = array.Element
appending array.SetElement = array.SetElement
appending array.At = array.At
appending array.ValuesAt = array.ValuesAt
appending array.Last = array.Last
appending array.Push = array.Append
appending array.Append = array.Append
appending array.Pop = array.Pop
appending array.Shift = array.Shift
appending array.Unshift = array.Unshift
appending array.Insert = array.Insert
appending array.Concat = array.Concat
appending array.Plus = array.Plus
appending array.Length = array.Length
appending array.IsEmpty = array.IsEmpty
appending array.DeleteAt = array.DeleteAt
appending array.Reverse = array.Reverse
appending array.ReverseInPlace = array.ReverseInPlace
appending array.SortInPlace = array.SortInPlace
appending array.Rotate = array.Rotate
appending array.Flatten = array.Flatten
appending array.Compact = array.Compact
appending array.Transpose = array.Transpose
appending array.Fill = array.Fill
appending array.Clear = array.Clear
appending array.Replace = array.Replace

abbrev pub with_one : ArrayRow → List Value → ArrayRow
with_one r [] = r
with_one r (v ∷ []) = appending r
with_one r (v ∷ w ∷ rest) = r

abbrev pub given : PlainRow → Held → Value → List Value → Option Value × Held
given (plain.Array r) held recv args = arrays.given (with_one r args) held recv args
given (plain.Hash r) held recv args = hashes.given r held recv args
given (plain.Object r) held recv args = (None, held)
given (plain.Class r) held recv args = (None, held)
given (plain.Item r) held recv args = (None, held)
given plain.Collect held recv args = (None, held)

-- a value is put under a String in a Hash, of which a copy may be made
abbrev pub may_copy : PlainRow → Held → List Value → Bool
may_copy (plain.Array r) held args = false
may_copy (plain.Hash r) held args = hashes.may_copy r held args
may_copy (plain.Object r) held args = false
may_copy (plain.Class r) held args = false
may_copy (plain.Item r) held args = false
may_copy plain.Collect held args = false
