use Rattle.items_laws.proofs.Pieced.{joined_alone, joined_with}
use Rattle.items_laws.proofs.written.pieces_are_joined.Goals as goal

-- src/written.rt
pub returns-clause-alone : goal.returns-clause-alone
returns-clause-alone c = joined_alone

pub returns-clause-separated : goal.returns-clause-separated
returns-clause-separated c = joined_with
