use Rattle.items_laws.proofs.Removed.{deleted}
use Rattle.items_laws.proofs.compared.equal_elements_are_deleted.Goals as goal

-- src/compared.rt
pub returns : goal.returns
returns c = deleted
