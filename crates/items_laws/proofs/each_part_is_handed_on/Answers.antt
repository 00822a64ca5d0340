use Rattle.items_laws.proofs.Pairs.{each_key, each_value}
use Rattle.items_laws.proofs.each_part_is_handed_on.Goals as goal

-- src/lib.rt
pub returns-clause-keys : goal.returns-clause-keys
returns-clause-keys c = each_key

pub returns-clause-values : goal.returns-clause-values
returns-clause-values c = each_value
