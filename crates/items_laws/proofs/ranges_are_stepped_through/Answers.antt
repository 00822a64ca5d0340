use Rattle.items_laws.proofs.Stepped.{stepped, stepped_before}
use Rattle.items_laws.proofs.ranges_are_stepped_through.Goals as goal

-- src/lib.rt
pub returns-clause-range : goal.returns-clause-range
returns-clause-range c = stepped

pub returns-clause-range_before : goal.returns-clause-range_before
returns-clause-range_before c = stepped_before
