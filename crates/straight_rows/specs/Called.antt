-- What is given in place of the call of a row of the table is what that call gives.
use Rattle.std.specs.Prelude.{◌≡◌, ℕ, List, Option, Some, IfSome, option_map}
use Rattle.rb_value.specs.declared.value.Value.{Value}
use Rattle.rb_value.specs.declared.value.ObjId.{ObjId}
use Rattle.def_core.specs.Changes.{gives}
use Rattle.rb_store.specs.Held.{Held}
use Rattle.row_table.specs.declared.line.CoreRow.{CoreRow}
use Rattle.row_table.specs.RowTable.{line_at}
use Rattle.def_rows.specs.Rows.{prim}

-- the core method of the row of that number
abbrev pub method_at : ℕ → Option CoreRow
method_at number = option_map (λ line. line.row) (line_at number)

-- the value that is given, by each number of the row and for each block, and the store that is left
abbrev pub GivesAsCalled : CoreRow → Held → Held → Value → List Value → Option Value → Type 0
GivesAsCalled row before after recv args found = IfSome found (λ v. (number : ℕ) → method_at number ≡ Some row
    → (block : Option ObjId) → prim number recv args block before.store ≡ gives v after.store)
