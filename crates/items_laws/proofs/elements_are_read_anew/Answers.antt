use Rattle.items_laws.proofs.Reading.{array_items, array_end, array_heaps}
use Rattle.items_laws.proofs.elements_are_read_anew.Goals as goal

-- src/lib.rt
pub returns-clause-items : goal.returns-clause-items
returns-clause-items c = array_items

pub returns-clause-end : goal.returns-clause-end
returns-clause-end c = array_end

pub returns-clause-heaps : goal.returns-clause-heaps
returns-clause-heaps c = array_heaps
