use Rattle.items_laws.proofs.Decided.{any_decided, all_decided, none_decided}
use Rattle.items_laws.proofs.items_decide.Goals as goal

-- src/lib.rt
pub returns-clause-any : goal.returns-clause-any
returns-clause-any c = any_decided

pub returns-clause-every : goal.returns-clause-every
returns-clause-every c = all_decided

pub returns-clause-none : goal.returns-clause-none
returns-clause-none c = none_decided
