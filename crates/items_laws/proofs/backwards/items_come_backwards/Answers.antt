use Rattle.items_laws.proofs.ReadBack.{elements_before, elements_end, pairs_before}
use Rattle.items_laws.proofs.backwards.items_come_backwards.Goals as goal

-- src/backwards.rt
pub returns-clause-elements : goal.returns-clause-elements
returns-clause-elements c = elements_before

pub returns-clause-end : goal.returns-clause-end
returns-clause-end c = elements_end

pub returns-clause-pairs : goal.returns-clause-pairs
returns-clause-pairs c = pairs_before
