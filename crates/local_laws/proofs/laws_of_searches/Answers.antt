use Rattle.local_laws.proofs.Searching.{local_found, hidden_found, owned_found}
use Rattle.local_laws.proofs.laws_of_searches.Goals as goal

pub returns : goal.returns
returns c = record { found = local_found; hidden_found = hidden_found; owned = owned_found }
