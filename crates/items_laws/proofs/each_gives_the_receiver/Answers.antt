use Rattle.items_laws.proofs.Folded.{numbered, reversed}
use Rattle.items_laws.proofs.each_gives_the_receiver.Goals as goal

-- src/lib.rt
pub returns-clause-with_index : goal.returns-clause-with_index
returns-clause-with_index c = numbered

pub returns-clause-reverse : goal.returns-clause-reverse
returns-clause-reverse c = reversed
