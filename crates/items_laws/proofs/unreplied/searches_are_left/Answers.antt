use Rattle.items_laws.proofs.CutEnumerable.{included_left}
use Rattle.items_laws.proofs.Found.{index_cut, included_cut, value_cut, key_cut}
use Rattle.items_laws.proofs.Removed.{deleting_cut}
use Rattle.items_laws.proofs.unreplied.searches_are_left.Goals as goal

-- src/unreplied.rt
pub returns-clause-index : goal.returns-clause-index
returns-clause-index c = index_cut

pub returns-clause-included : goal.returns-clause-included
returns-clause-included c = included_cut

pub returns-clause-delete : goal.returns-clause-delete
returns-clause-delete c = deleting_cut

pub returns-clause-value : goal.returns-clause-value
returns-clause-value c = value_cut

pub returns-clause-key : goal.returns-clause-key
returns-clause-key c = key_cut

pub returns-clause-collected : goal.returns-clause-collected
returns-clause-collected c = included_left
