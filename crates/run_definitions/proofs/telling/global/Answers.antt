use Rattle.std.proofs.Common.{Bool, subst}
use Rattle.std.specs.Prelude.{codes}
use Rattle.def_calls.specs.Definitions.{text_if}
use Rattle.run_values.specs.Answers.{Answers}
use Rattle.run_definitions.proofs.telling.global.Goals as goal

pub returns-clause-answers : goal.returns-clause-answers
returns-clause-answers c = subst (λ (b : Bool). Answers c.args.st.now c.text_if.new.st c.text_if.result
    (λ w. text_if w (codes "global-variable") b)) c.is_set-there.ensures c.text_if.ensures.answers
