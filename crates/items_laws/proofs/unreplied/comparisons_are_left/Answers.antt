use Rattle.items_laws.proofs.Paired.{order_cut, equality_cut}
use Rattle.items_laws.proofs.Equated.{equal_cut}
use Rattle.items_laws.proofs.unreplied.comparisons_are_left.Goals as goal

-- src/unreplied.rt
pub returns-clause-order : goal.returns-clause-order
returns-clause-order c = order_cut

pub returns-clause-equal : goal.returns-clause-equal
returns-clause-equal c = equality_cut

pub returns-clause-hash : goal.returns-clause-hash
returns-clause-hash c = equal_cut
