use Rattle.items_laws.proofs.Fetched.{fetch_there, fetch_by_block, fetch_second, fetch_fails}
use Rattle.items_laws.proofs.stored.values_are_fetched.Goals as goal

-- src/stored.rt
pub returns-clause-there : goal.returns-clause-there
returns-clause-there c = fetch_there

pub returns-clause-block : goal.returns-clause-block
returns-clause-block c = fetch_by_block

pub returns-clause-second : goal.returns-clause-second
returns-clause-second c = fetch_second

pub returns-clause-lacking : goal.returns-clause-lacking
returns-clause-lacking c = fetch_fails
