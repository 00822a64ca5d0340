use Rattle.items_laws.proofs.Fetched.{element_there, element_default, element_by_block}
use Rattle.items_laws.proofs.stored.values_stand_under_keys.Goals as goal

-- src/stored.rt
pub returns-clause-there : goal.returns-clause-there
returns-clause-there c = element_there

pub returns-clause-default : goal.returns-clause-default
returns-clause-default c = element_default

pub returns-clause-block : goal.returns-clause-block
returns-clause-block c = element_by_block
