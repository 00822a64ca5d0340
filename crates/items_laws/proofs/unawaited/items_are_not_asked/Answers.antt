use Rattle.items_laws.proofs.Undecided.{all_unawaited, any_unawaited, count_unawaited, none_unawaited}
use Rattle.items_laws.proofs.unawaited.items_are_not_asked.Goals as goal

-- src/unawaited.rt
pub returns-clause-any : goal.returns-clause-any
returns-clause-any c = any_unawaited

pub returns-clause-every : goal.returns-clause-every
returns-clause-every c = all_unawaited

pub returns-clause-none : goal.returns-clause-none
returns-clause-none c = none_unawaited

pub returns-clause-count : goal.returns-clause-count
returns-clause-count c = count_unawaited
