use Rattle.items_laws.proofs.Printing.{printing_cut, inspecting_cut, putting_cut}
use Rattle.items_laws.proofs.output.lines_are_cut_short.Goals as goal

-- src/output.rt
pub returns-clause-print : goal.returns-clause-print
returns-clause-print c = printing_cut

pub returns-clause-p : goal.returns-clause-p
returns-clause-p c = inspecting_cut

pub returns-clause-puts : goal.returns-clause-puts
returns-clause-puts c = putting_cut
