use Rattle.items_laws.proofs.BegunPairs.{dropping_begun, keys_begun, pairs_begun, values_begun}
use Rattle.items_laws.proofs.beginnings.walks_over_pairs_are_left.Goals as goal

-- src/beginnings.rt
pub returns-clause-each : goal.returns-clause-each
returns-clause-each c = pairs_begun

pub returns-clause-keys : goal.returns-clause-keys
returns-clause-keys c = keys_begun

pub returns-clause-values : goal.returns-clause-values
returns-clause-values c = values_begun

pub returns-clause-dropped : goal.returns-clause-dropped
returns-clause-dropped c = dropping_begun
