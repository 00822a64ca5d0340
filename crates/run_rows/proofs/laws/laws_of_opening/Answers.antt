use Rattle.run_rows.proofs.Methods.{methods_are_told, no_others}
use Rattle.run_rows.proofs.laws.laws_of_opening.Goals as goal

pub returns-clause-methods : goal.returns-clause-methods
returns-clause-methods c = methods_are_told

pub returns-clause-others : goal.returns-clause-others
returns-clause-others c = no_others
