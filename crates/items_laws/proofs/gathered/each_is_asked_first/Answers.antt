use Rattle.items_laws.proofs.CutEnumerable.{each_first}
use Rattle.items_laws.proofs.gathered.each_is_asked_first.Goals as goal

-- src/gathered.rt
pub returns : goal.returns
returns c = each_first
