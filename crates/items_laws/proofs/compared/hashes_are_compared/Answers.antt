use Rattle.items_laws.proofs.Equated.{hashes_equal, hashes_differ}
use Rattle.items_laws.proofs.compared.hashes_are_compared.Goals as goal

-- src/compared.rt
pub returns-clause-equal : goal.returns-clause-equal
returns-clause-equal c = hashes_equal

pub returns-clause-differ : goal.returns-clause-differ
returns-clause-differ c = hashes_differ
