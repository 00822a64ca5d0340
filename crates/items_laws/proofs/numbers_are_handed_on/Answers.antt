use Rattle.items_laws.proofs.Ranges.{range_items, range_end}
use Rattle.items_laws.proofs.numbers_are_handed_on.Goals as goal

-- src/lib.rt
pub returns-clause-items : goal.returns-clause-items
returns-clause-items c = range_items

pub returns-clause-end : goal.returns-clause-end
returns-clause-end c = range_end
