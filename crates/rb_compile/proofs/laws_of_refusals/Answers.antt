use Rattle.rb_compile.proofs.Causes.{one_cause, no_program}
use Rattle.rb_compile.proofs.laws_of_refusals.Goals as goal

pub returns : goal.returns
returns c = record { one_cause = one_cause; no_program = no_program }
