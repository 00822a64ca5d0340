-- What rows give straight on in the place of their calls, by how many arguments there are.
use Rattle.std.specs.Prelude.{List, [], ◌∷◌, Option, Some, None}
use Rattle.rb_value.specs.declared.value.Value.{Value}
use Rattle.rb_store.specs.Held.{Held}
use Rattle.row_table.specs.declared.line.CoreRow.{CoreRow}
use Rattle.iter_items.specs.Named.{ComparingRow}
use Rattle.iter_items.specs.declared.row.ItemsRow.{ItemsRow}
use Rattle.iter_items.specs.declared.row.ItemsRow.TheVariants as items
use Rattle.rows_array.specs.declared.rows.ArrayRow.{ArrayRow}
use Rattle.rows_hash.specs.declared.rows.HashRow.{HashRow}
use Rattle.straight_rows.specs.Straight as table
use Rattle.run_rows.specs.Straight as straight
use Rattle.run_rows.specs.declared.row.PlainRow.TheVariants as plain
use Rattle.run_rows.specs.declared.row.Row.{Row}
use Rattle.run_rows.specs.declared.row.Row.TheVariants.{OfTable, Plain, Star}
use Rattle.run_rows.specs.declared.row.StarRow.{StarRow}
use Rattle.run_rows.specs.declared.row.StarRow.TheVariants as star

-- methods of Array and of Hash

abbrev pub of_array : ArrayRow → Held → Value → List Value → Option Value × Held
of_array r held recv args = straight.given (plain.Array r) held recv args

abbrev pub of_hash : HashRow → Held → Value → List Value → Option Value × Held
of_hash r held recv args = straight.given (plain.Hash r) held recv args

-- a row of the table, for one argument, unless something is found by its number

abbrev pub of_table_row : Option CoreRow → Held → Value → Value → Option Value × Held
of_table_row None held recv x = (None, held)
of_table_row (Some r) held recv x = table.given r held recv (x ∷ [])

abbrev pub of_table : Option Value → Option CoreRow → Held → Value → Value → Option Value × Held
of_table (Some v) r held recv x = (Some v, held)
of_table None r held recv x = of_table_row r held recv x

-- In one turn: without arguments, with one, by which something may be found, or with more.

abbrev pub of_one : Option Value → Row → Held → Value → Value → Option Value × Held
of_one found (OfTable r) held recv x = of_table found r held recv x
of_one found (Plain r) held recv x = straight.given r held recv (x ∷ [])
of_one found (Star r) held recv x = (None, held)

abbrev pub of_more : Row → Held → Value → List Value → Option Value × Held
of_more (OfTable r) held recv args = (None, held)
of_more (Plain r) held recv args = straight.given r held recv args
of_more (Star r) held recv args = (None, held)

abbrev pub in_one_turn : (Value → Option Value) → Row → Held → Value → List Value → Option Value × Held
in_one_turn found r held recv [] = straight.read r held recv
in_one_turn found r held recv (x ∷ []) = of_one (found x) r held recv x
in_one_turn found r held recv (x ∷ y ∷ rest) = of_more r held recv (x ∷ y ∷ rest)

-- In the two turns of an iteration that ends at once: of one that compares, what it gives for the argument.

abbrev pub of_items : (ComparingRow → Option Value) → ItemsRow → Option Value
of_items found (items.Compares r) = found r
of_items found _ = None

abbrev pub of_star : (ComparingRow → Option Value) → StarRow → Option Value
of_star found (star.Items r) = of_items found r
of_star found _ = None

abbrev pub of_row : (ComparingRow → Option Value) → Row → Option Value
of_row found (Star r) = of_star found r
of_row found _ = None

abbrev pub in_two_turns : (Value → ComparingRow → Option Value) → Row → List Value → Option Value
in_two_turns found r [] = None
in_two_turns found r (x ∷ []) = of_row (found x) r
in_two_turns found r (x ∷ y ∷ rest) = None
