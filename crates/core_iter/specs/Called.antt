-- What those above name of the calls of rows.
use Rattle.std.specs.Prelude.{Bool}
use Rattle.run_rows.specs.contracts.row.RowPartialEq.TheImpl as derived
pub use Rattle.run_rows.specs.Calls as calls
pub use Rattle.run_rows.specs.declared.row.Row.{Row}
pub use Rattle.run_rows.specs.declared.row.Row.TheVariants as row
pub use Rattle.run_rows.specs.declared.row.PlainRow.{PlainRow}
pub use Rattle.run_rows.specs.declared.row.PlainRow.TheVariants as plain
pub use Rattle.run_rows.specs.declared.row.KernelRow.{KernelRow}
pub use Rattle.run_rows.specs.declared.row.KernelRow.TheVariants as kernel
pub use Rattle.run_rows.specs.declared.row.StarRow.{StarRow}
pub use Rattle.run_rows.specs.declared.row.StarRow.TheVariants as star

-- when two rows are the same
abbrev pub same_row : Row → Row → Bool
same_row = derived.ghosts.eq
