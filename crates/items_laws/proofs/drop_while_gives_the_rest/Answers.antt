use Rattle.items_laws.proofs.Dropped.{dropped}
use Rattle.items_laws.proofs.drop_while_gives_the_rest.Goals as goal

-- src/lib.rt
pub returns : goal.returns
returns c = dropped
