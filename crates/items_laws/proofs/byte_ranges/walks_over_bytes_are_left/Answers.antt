use Rattle.items_laws.proofs.ByteSteps.{each_left, each_left_before, steps_left, steps_left_before}
use Rattle.items_laws.proofs.byte_ranges.walks_over_bytes_are_left.Goals as goal

-- src/byte_ranges.rt
pub returns-clause-each : goal.returns-clause-each
returns-clause-each c = each_left

pub returns-clause-each_before : goal.returns-clause-each_before
returns-clause-each_before c = each_left_before

pub returns-clause-steps : goal.returns-clause-steps
returns-clause-steps c = steps_left

pub returns-clause-steps_before : goal.returns-clause-steps_before
returns-clause-steps_before c = steps_left_before
