use Rattle.items_laws.proofs.Sought.{any_told, all_told, none_told}
use Rattle.items_laws.proofs.answers_decide.Goals as goal

-- src/lib.rt
pub returns-clause-any : goal.returns-clause-any
returns-clause-any c = any_told

pub returns-clause-every : goal.returns-clause-every
returns-clause-every c = all_told

pub returns-clause-none : goal.returns-clause-none
returns-clause-none c = none_told
