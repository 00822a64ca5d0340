use Rattle.std.proofs.Common.{subst}
use Rattle.def_rows.specs.declared.answer.Answer.{Answer}
use Rattle.def_rows.specs.Answers.{called, finish}
use Rattle.core_rows.specs.Completes.{Completes}
use Rattle.core_rows.proofs.calling.call.Goals as goal

pub returns : goal.returns
unfolding called
returns g c =
    subst (λ (a : Answer). Completes c.args.st.now c.finish.new.st c.finish.result (finish c.args.st.now.store c.args.recv a))
    c.in_ok-answer.ensures.value c.finish.ensures
