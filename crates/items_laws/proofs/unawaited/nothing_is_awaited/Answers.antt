use Rattle.items_laws.proofs.NotAwaited.{difference_unawaited, each_unawaited, intersection_unawaited, new_unawaited, outright_unawaited, step_unawaited, union_unawaited}
use Rattle.items_laws.proofs.unawaited.nothing_is_awaited.Goals as goal

-- src/unawaited.rt
pub returns-clause-array : goal.returns-clause-array
returns-clause-array c = new_unawaited

pub returns-clause-each : goal.returns-clause-each
returns-clause-each c = each_unawaited

pub returns-clause-steps : goal.returns-clause-steps
returns-clause-steps c = step_unawaited

pub returns-clause-difference : goal.returns-clause-difference
returns-clause-difference c = difference_unawaited

pub returns-clause-intersection : goal.returns-clause-intersection
returns-clause-intersection c = intersection_unawaited

pub returns-clause-union : goal.returns-clause-union
returns-clause-union c = union_unawaited

pub returns-clause-outright : goal.returns-clause-outright
returns-clause-outright c = outright_unawaited
