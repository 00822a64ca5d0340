use Rattle.local_laws.proofs.Growing.{added, opened, put_mirrors}
use Rattle.local_laws.proofs.laws_of_scopes.Goals as goal

pub returns : goal.returns
returns c = record { kept = added; opened = opened; assigned = put_mirrors }
