-- What those above name of calls.
pub use Rattle.run_calls.specs.Rows.rows as rows
pub use Rattle.run_calls.specs.Rows.called as called
pub use Rattle.run_calls.specs.Rows.plans as plans
pub use Rattle.run_calls.specs.Rows.making as making
pub use Rattle.run_calls.specs.Rows.{stage_of, Iteration}
pub use Rattle.run_calls.specs.Rows.iteration as iteration
pub use Rattle.run_calls.specs.Activations as activations
pub use Rattle.run_calls.specs.Blocks as blocks
pub use Rattle.run_calls.specs.Entering as entering
pub use Rattle.run_calls.specs.declared.activation.Activation.{Activation}
pub use Rattle.run_calls.specs.declared.entry.Opening.{Opening}
pub use Rattle.run_calls.specs.declared.entry.Beginning.{Beginning}
pub use Rattle.run_calls.specs.declared.entry.Entry.{Entry}
pub use Rattle.run_calls.specs.declared.entry.Entry.TheVariants as entry
pub use Rattle.run_calls.specs.declared.naming.Naming.{Naming}
pub use Rattle.run_calls.specs.declared.naming.Naming.TheVariants as naming
pub use Rattle.run_calls.specs.declared.blocks.BlockArgument.{BlockArgument}
pub use Rattle.run_calls.specs.declared.blocks.BlockArgument.TheVariants as argument
