use Rattle.items_laws.proofs.InPlace.{looping, counts, visits, indexes, fills, pairs, over_visits}
use Rattle.items_laws.proofs.calls_in_place_are_those_of_plans.Goals as goal

-- src/lib.rt
pub returns-clause-looping : goal.returns-clause-looping
returns-clause-looping c = looping

pub returns-clause-numbers : goal.returns-clause-numbers
returns-clause-numbers c = counts

pub returns-clause-elements : goal.returns-clause-elements
returns-clause-elements c = visits

pub returns-clause-places : goal.returns-clause-places
returns-clause-places c = indexes

pub returns-clause-fills : goal.returns-clause-fills
returns-clause-fills c = fills

pub returns-clause-pairs : goal.returns-clause-pairs
returns-clause-pairs c = pairs

pub returns-clause-items : goal.returns-clause-items
returns-clause-items c = over_visits
