-- What those above name of rows.
pub use Rattle.core_iter.specs.Rows.rows as rows
pub use Rattle.core_iter.specs.Called as called
pub use Rattle.core_iter.specs.Rows as plans
pub use Rattle.core_iter.specs.Making as making
pub use Rattle.core_iter.specs.Stage.{stage_of}
pub use Rattle.core_iter.specs.declared.iteration.Iteration.{Iteration}
pub use Rattle.core_iter.specs.declared.iteration.Iteration.TheVariants as iteration
