use Rattle.items_laws.proofs.Equal.{counting_cut}
use Rattle.items_laws.proofs.Combined.{combining_cut, combining_first_cut, adding_cut, adding_cut_from}
use Rattle.items_laws.proofs.unreplied.replies_are_awaited.Goals as goal

-- src/unreplied.rt
pub returns-clause-count : goal.returns-clause-count
returns-clause-count c = counting_cut

pub returns-clause-inject : goal.returns-clause-inject
returns-clause-inject c = combining_cut

pub returns-clause-from_first : goal.returns-clause-from_first
returns-clause-from_first c = combining_first_cut

pub returns-clause-sum : goal.returns-clause-sum
returns-clause-sum c = adding_cut

pub returns-clause-sum_from : goal.returns-clause-sum_from
returns-clause-sum_from c = adding_cut_from
