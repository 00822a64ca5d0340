use Rattle.items_laws.proofs.Alone.{map_alone, fill_alone}
use Rattle.items_laws.proofs.Untouched.{delete_alone}
use Rattle.items_laws.proofs.an_array_left_alone.Goals as goal

-- src/lib.rt
pub returns-clause-replaced : goal.returns-clause-replaced
returns-clause-replaced c = map_alone

pub returns-clause-thinned : goal.returns-clause-thinned
returns-clause-thinned c = delete_alone

pub returns-clause-filled : goal.returns-clause-filled
returns-clause-filled c = fill_alone
