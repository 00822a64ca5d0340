use Rattle.items_laws.proofs.Sought.{found}
use Rattle.items_laws.proofs.find_gives_the_first.Goals as goal

-- src/lib.rt
pub returns : goal.returns
returns c = found
