use Rattle.items_laws.proofs.Replied.{is_less, is_at_most, is_greater, is_at_least}
use Rattle.items_laws.proofs.asked.a_reply_orders.Goals as goal

-- src/asked.rt
pub returns-clause-less : goal.returns-clause-less
returns-clause-less c = is_less

pub returns-clause-at_most : goal.returns-clause-at_most
returns-clause-at_most c = is_at_most

pub returns-clause-greater : goal.returns-clause-greater
returns-clause-greater c = is_greater

pub returns-clause-at_least : goal.returns-clause-at_least
returns-clause-at_least c = is_at_least
