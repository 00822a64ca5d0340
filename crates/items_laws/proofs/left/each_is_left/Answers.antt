use Rattle.items_laws.proofs.CutReplaced.{replacing_left}
use Rattle.items_laws.proofs.CutWalks.{each_left}
use Rattle.items_laws.proofs.left.each_is_left.Goals as goal

-- src/left.rt
pub returns-clause-replacing : goal.returns-clause-replacing
returns-clause-replacing c = replacing_left

pub returns-clause-each : goal.returns-clause-each
returns-clause-each c = each_left
