use Rattle.items_laws.proofs.Printing.{printed, inspected, put, put_newline}
use Rattle.items_laws.proofs.output.lines_go_out.Goals as goal

-- src/output.rt
pub returns-clause-print : goal.returns-clause-print
returns-clause-print c = printed

pub returns-clause-p : goal.returns-clause-p
returns-clause-p c = inspected

pub returns-clause-puts : goal.returns-clause-puts
returns-clause-puts c = put

pub returns-clause-newline : goal.returns-clause-newline
returns-clause-newline c = put_newline
