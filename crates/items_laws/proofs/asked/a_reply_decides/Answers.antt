use Rattle.items_laws.proofs.Replied.{differs, matches}
use Rattle.items_laws.proofs.asked.a_reply_decides.Goals as goal

-- src/asked.rt
pub returns-clause-differs : goal.returns-clause-differs
returns-clause-differs c = differs

pub returns-clause-matches : goal.returns-clause-matches
returns-clause-matches c = matches
