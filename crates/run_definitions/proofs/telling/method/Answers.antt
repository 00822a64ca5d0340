use Rattle.std.proofs.Common.{ap, sym}
use Rattle.std.specs.Prelude.{codes}
use Rattle.def_calls.specs.World.{with_store}
use Rattle.def_calls.specs.Definitions.{method_told, text_if}
use Rattle.run_values.proofs.Answered.{answers_alike}
use Rattle.run_definitions.proofs.telling.method.Goals as goal

pub returns-clause-answers : goal.returns-clause-answers
unfolding method_told
returns-clause-answers c = answers_alike c.args.st.now c.text_if.new.st c.text_if.result
    (λ w. text_if w (codes "method") c.has_method-there.result)
    (λ w. method_told w c.args.caller c.args.receiver c.args.name)
    (λ w. ap (text_if (with_store w c.args.st.now.store) (codes "method")) (sym (c.has_method-there.ensures w)))
    c.text_if.ensures.answers
