use Rattle.items_laws.proofs.Summed.{block_added, block_added_to, items_added, items_added_to}
use Rattle.items_laws.proofs.Totals.{integers_added}
use Rattle.items_laws.proofs.items_add_up.Goals as goal

-- src/lib.rt
pub returns-clause-block : goal.returns-clause-block
returns-clause-block c = block_added

pub returns-clause-block_from : goal.returns-clause-block_from
returns-clause-block_from c = block_added_to

pub returns-clause-alone : goal.returns-clause-alone
returns-clause-alone c = items_added

pub returns-clause-alone_from : goal.returns-clause-alone_from
returns-clause-alone_from c = items_added_to

pub returns-clause-integers : goal.returns-clause-integers
returns-clause-integers c = integers_added
