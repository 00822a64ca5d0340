use Rattle.items_laws.proofs.Equal.{counted_equal, counted_all}
use Rattle.items_laws.proofs.asked.equal_items_are_counted.Goals as goal

-- src/asked.rt
pub returns-clause-equal : goal.returns-clause-equal
returns-clause-equal c = counted_equal

pub returns-clause-all : goal.returns-clause-all
returns-clause-all c = counted_all
