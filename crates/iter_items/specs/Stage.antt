-- Where a method over items stands.
use Rattle.iter_enumerators.specs.declared.state.EnumeratorState.{EnumeratorState}
use Rattle.iter_comparing.specs.Stage as comparing
use Rattle.iter_items.specs.declared.visit.Visit.{Visit}
use Rattle.iter_items.specs.declared.gathering.Gathering.{Gathering}
use Rattle.iter_items.specs.declared.state.ItemsState.{ItemsState}
use Rattle.iter_items.specs.declared.state.ItemsState.TheVariants as state

-- it visits items; it waits for `each` to give them; it compares or shows values; or it is one of an Enumerator
pub data Stage : Type 0 where
  visits : Visit → Stage
  gathers : Gathering → Stage
  compares : comparing.Stage → Stage
  enumerates : EnumeratorState → Stage

abbrev pub stage_of : ItemsState → Stage
stage_of (state.Visits v) = visits v
stage_of (state.Gathers g) = gathers g
stage_of (state.Compares s) = compares (comparing.stage_of s)
stage_of (state.Enumerates s) = enumerates s
