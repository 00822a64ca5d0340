use Rattle.items_laws.proofs.Enumerating.{each_of_block, each_of_method, puts_one, yields_all}
use Rattle.items_laws.proofs.enumerated.sources_are_called.Goals as goal

-- src/enumerated.rt
pub returns-clause-block : goal.returns-clause-block
returns-clause-block c = each_of_block

pub returns-clause-method : goal.returns-clause-method
returns-clause-method c = each_of_method

pub returns-clause-put : goal.returns-clause-put
returns-clause-put c = puts_one

pub returns-clause-yields : goal.returns-clause-yields
returns-clause-yields c = yields_all
