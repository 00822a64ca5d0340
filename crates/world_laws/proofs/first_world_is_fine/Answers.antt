use Rattle.world_laws.specs.Anywhere.{anywhere}
use Rattle.world_laws.proofs.Opening.{opening_is}
use Rattle.world_laws.proofs.first_world_is_fine.Goals as goal

pub returns-clause-fine : goal.returns-clause-fine
returns-clause-fine c = λ names input. opening_is anywhere names input

pub returns-clause-main : goal.returns-clause-main
returns-clause-main c = λ names input. (opening_is anywhere names input).activations.0
