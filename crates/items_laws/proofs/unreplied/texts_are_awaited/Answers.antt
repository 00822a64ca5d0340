use Rattle.items_laws.proofs.CutWrote.{array_cut, hash_cut, joined_cut, joined_with_cut}
use Rattle.items_laws.proofs.unreplied.texts_are_awaited.Goals as goal

-- src/unreplied.rt
pub returns-clause-array : goal.returns-clause-array
returns-clause-array c = array_cut

pub returns-clause-hash : goal.returns-clause-hash
returns-clause-hash c = hash_cut

pub returns-clause-join : goal.returns-clause-join
returns-clause-join c = joined_cut

pub returns-clause-separated : goal.returns-clause-separated
returns-clause-separated c = joined_with_cut
