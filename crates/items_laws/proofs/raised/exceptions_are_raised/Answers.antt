use Rattle.items_laws.proofs.Raising.{raise_gives_none, raised_itself, raised_again, raised_text, raised_by_new, unhandled}
use Rattle.items_laws.proofs.raised.exceptions_are_raised.Goals as goal

-- src/raised.rt
pub returns-clause-never : goal.returns-clause-never
returns-clause-never c = raise_gives_none

pub returns-clause-exception : goal.returns-clause-exception
returns-clause-exception c = raised_itself

pub returns-clause-message : goal.returns-clause-message
returns-clause-message c = raised_again

pub returns-clause-text : goal.returns-clause-text
returns-clause-text c = raised_text

pub returns-clause-class : goal.returns-clause-class
returns-clause-class c = raised_by_new

pub returns-clause-unhandled : goal.returns-clause-unhandled
returns-clause-unhandled c = unhandled
