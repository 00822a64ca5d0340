use Rattle.items_laws.proofs.Dropping.{pairs_dropped}
use Rattle.items_laws.proofs.answers_drop_pairs.Goals as goal

-- src/lib.rt
pub returns : goal.returns
returns c = pairs_dropped
