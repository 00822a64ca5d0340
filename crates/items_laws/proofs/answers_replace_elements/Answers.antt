use Rattle.items_laws.proofs.Replaced.{elements_replaced}
use Rattle.items_laws.proofs.answers_replace_elements.Goals as goal

-- src/lib.rt
pub returns : goal.returns
returns c = elements_replaced
