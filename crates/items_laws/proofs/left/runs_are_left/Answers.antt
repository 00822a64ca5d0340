use Rattle.items_laws.proofs.CutEnumerable.{folding_left}
use Rattle.items_laws.proofs.Leaving.{left_alone, left_backwards, left_counting, left_with_index, left_with_object, left_folding}
use Rattle.items_laws.proofs.left.runs_are_left.Goals as goal

-- src/left.rt
pub returns-clause-alone : goal.returns-clause-alone
returns-clause-alone c = left_alone

pub returns-clause-backwards : goal.returns-clause-backwards
returns-clause-backwards c = left_backwards

pub returns-clause-counting : goal.returns-clause-counting
returns-clause-counting c = left_counting

pub returns-clause-with_index : goal.returns-clause-with_index
returns-clause-with_index c = left_with_index

pub returns-clause-object : goal.returns-clause-object
returns-clause-object c = left_with_object

pub returns-clause-folding : goal.returns-clause-folding
returns-clause-folding c = left_folding

pub returns-clause-from_first : goal.returns-clause-from_first
returns-clause-from_first c = folding_left
