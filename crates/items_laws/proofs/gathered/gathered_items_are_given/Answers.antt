use Rattle.items_laws.proofs.Collected.{gathered_outright}
use Rattle.items_laws.proofs.gathered.gathered_items_are_given.Goals as goal

-- src/gathered.rt
pub returns : goal.returns
returns c = gathered_outright
