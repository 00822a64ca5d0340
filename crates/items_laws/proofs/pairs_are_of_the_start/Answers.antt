use Rattle.items_laws.proofs.Reading.{pair_items, pair_end}
use Rattle.items_laws.proofs.pairs_are_of_the_start.Goals as goal

-- src/lib.rt
pub returns-clause-items : goal.returns-clause-items
returns-clause-items c = pair_items

pub returns-clause-end : goal.returns-clause-end
returns-clause-end c = pair_end
