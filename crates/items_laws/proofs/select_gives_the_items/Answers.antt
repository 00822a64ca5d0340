use Rattle.items_laws.proofs.Sifted.{selected, rejected}
use Rattle.items_laws.proofs.Ordered.{parted}
use Rattle.items_laws.proofs.select_gives_the_items.Goals as goal

-- src/lib.rt
pub returns-clause-select : goal.returns-clause-select
returns-clause-select c = selected

pub returns-clause-reject : goal.returns-clause-reject
returns-clause-reject c = rejected

pub returns-clause-partition : goal.returns-clause-partition
returns-clause-partition c = parted
