use Rattle.items_laws.proofs.Awaited.{differing_cut, matching_cut, less_cut, at_most_cut, greater_cut, at_least_cut}
use Rattle.items_laws.proofs.unreplied.a_reply_is_awaited.Goals as goal

-- src/unreplied.rt
pub returns-clause-differs : goal.returns-clause-differs
returns-clause-differs c = differing_cut

pub returns-clause-matches : goal.returns-clause-matches
returns-clause-matches c = matching_cut

pub returns-clause-less : goal.returns-clause-less
returns-clause-less c = less_cut

pub returns-clause-at_most : goal.returns-clause-at_most
returns-clause-at_most c = at_most_cut

pub returns-clause-greater : goal.returns-clause-greater
returns-clause-greater c = greater_cut

pub returns-clause-at_least : goal.returns-clause-at_least
returns-clause-at_least c = at_least_cut
