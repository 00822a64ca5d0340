use Rattle.items_laws.proofs.Elements.{each_element}
use Rattle.items_laws.proofs.Pairs.{each_pair}
use Rattle.items_laws.proofs.each_hands_on.Goals as goal

-- src/lib.rt
pub returns-clause-array : goal.returns-clause-array
returns-clause-array c = each_element

pub returns-clause-hash : goal.returns-clause-hash
returns-clause-hash c = each_pair
