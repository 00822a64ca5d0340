use Rattle.items_laws.proofs.Outright.{any_outright, all_outright, none_outright}
use Rattle.items_laws.proofs.elements_decide.Goals as goal

-- src/lib.rt
pub returns-clause-any : goal.returns-clause-any
returns-clause-any c = any_outright

pub returns-clause-every : goal.returns-clause-every
returns-clause-every c = all_outright

pub returns-clause-none : goal.returns-clause-none
returns-clause-none c = none_outright
