-- Where a method that compares or shows values stands.
use Rattle.rb_value.specs.declared.value.SymId.{SymId}
use Rattle.iter_comparing.specs.declared.ordering.Order.{Order}
use Rattle.iter_comparing.specs.declared.state.Work.{Work}
use Rattle.iter_comparing.specs.declared.state.ComparingState.{ComparingState}
use Rattle.iter_comparing.specs.declared.state.ComparingState.TheVariants as state

-- it negates, tests or gives an answer, or shows it as the key that is absent; it waits for one of `<=>`; or it asks
-- values for the method of that name
pub data Stage : Type 0 where
  negates : Stage
  tests : Stage
  hands : Stage
  missing : Stage
  orders : Order → Stage
  asks : SymId → Work → Stage

-- where the cache keeps what was found doesn't matter
abbrev pub stage_of : ComparingState → Stage
stage_of state.Negates = negates
stage_of state.Tests = tests
stage_of state.Hands = hands
stage_of state.Missing = missing
stage_of (state.Orders o) = orders o
stage_of (state.Asks a) = asks a.name a.work
