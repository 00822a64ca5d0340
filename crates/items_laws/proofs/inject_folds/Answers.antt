use Rattle.items_laws.proofs.Folded.{injected, passed_on}
use Rattle.items_laws.proofs.Firsts.{folded_on}
use Rattle.items_laws.proofs.inject_folds.Goals as goal

-- src/lib.rt
pub returns-clause-inject : goal.returns-clause-inject
returns-clause-inject c = injected

pub returns-clause-object : goal.returns-clause-object
returns-clause-object c = passed_on

pub returns-clause-from_first : goal.returns-clause-from_first
returns-clause-from_first c = folded_on
