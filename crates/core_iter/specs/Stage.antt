-- Where an iteration stands: one over items, or any other.
use Rattle.iter_items.specs.Stage as over_items
use Rattle.core_iter.specs.declared.iteration.Iteration.{Iteration}
use Rattle.core_iter.specs.declared.iteration.Iteration.TheVariants as state

pub data Stage : Type 0 where
  own : Iteration → Stage
  items : over_items.Stage → Stage

abbrev pub stage_of : Iteration → Stage
stage_of (state.Items s) = items (over_items.stage_of s)
stage_of s = own s
