-- What those above name of rows.
pub use Rattle.iter_items.specs.Named.comparing as comparing
pub use Rattle.iter_items.specs.Named.{ComparingRow}
pub use Rattle.iter_items.specs.declared.row.ItemsRow.TheVariants as items
pub use Rattle.row_table.specs.declared.line.CoreRow.{CoreRow}
pub use Rattle.row_table.specs.declared.line.CoreRow.TheVariants as core
pub use Rattle.row_table.specs.declared.string.StringMethod.TheVariants as text
pub use Rattle.rows_array.specs.declared.rows.ArrayRow.TheVariants as array
pub use Rattle.rows_hash.specs.declared.rows.HashRow.TheVariants as hash
pub use Rattle.rows_items.specs.Keyed as keyed
pub use Rattle.straight_rows.specs.Straight as table
pub use Rattle.run_rows.specs.Given as given
pub use Rattle.run_rows.specs.Numbered.{row_at}
pub use Rattle.run_rows.specs.Straight as straight
