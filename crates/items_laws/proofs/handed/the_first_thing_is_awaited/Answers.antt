use Rattle.items_laws.proofs.Sole.{first_awaited}
use Rattle.items_laws.proofs.handed.the_first_thing_is_awaited.Goals as goal

-- src/handed.rt
pub returns : goal.returns
returns c = first_awaited
