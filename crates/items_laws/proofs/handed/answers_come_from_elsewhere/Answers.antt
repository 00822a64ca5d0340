use Rattle.items_laws.proofs.Handing.{sends_kept, resumes_it, yields_them, reads_line}
use Rattle.items_laws.proofs.handed.answers_come_from_elsewhere.Goals as goal

-- src/handed.rt
pub returns-clause-symbol : goal.returns-clause-symbol
returns-clause-symbol c = sends_kept

pub returns-clause-resume : goal.returns-clause-resume
returns-clause-resume c = resumes_it

pub returns-clause-yields : goal.returns-clause-yields
returns-clause-yields c = yields_them

pub returns-clause-line : goal.returns-clause-line
returns-clause-line c = reads_line
