use Rattle.items_laws.proofs.Counting.{times, upto, downto, step, range_each, range_each_before}
use Rattle.items_laws.proofs.numbers_are_counted.Goals as goal

-- src/lib.rt
pub returns-clause-times : goal.returns-clause-times
returns-clause-times c = times

pub returns-clause-upto : goal.returns-clause-upto
returns-clause-upto c = upto

pub returns-clause-downto : goal.returns-clause-downto
returns-clause-downto c = downto

pub returns-clause-step : goal.returns-clause-step
returns-clause-step c = step

pub returns-clause-range : goal.returns-clause-range
returns-clause-range c = range_each

pub returns-clause-range_before : goal.returns-clause-range_before
returns-clause-range_before c = range_each_before
