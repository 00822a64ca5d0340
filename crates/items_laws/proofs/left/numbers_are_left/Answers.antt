use Rattle.items_laws.proofs.CutCounts.{numbers_cut}
use Rattle.items_laws.proofs.left.numbers_are_left.Goals as goal

-- src/left.rt
pub returns : goal.returns
returns c = numbers_cut
