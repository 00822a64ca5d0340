use Rattle.items_laws.proofs.Answered.{mapped, flat_mapped}
use Rattle.items_laws.proofs.map_gives_the_answers.Goals as goal

-- src/lib.rt
pub returns-clause-map : goal.returns-clause-map
returns-clause-map c = mapped

pub returns-clause-flat_map : goal.returns-clause-flat_map
returns-clause-flat_map c = flat_mapped
