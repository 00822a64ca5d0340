use Rattle.std.proofs.Common.{ap, sym}
use Rattle.std.specs.Prelude.{codes}
use Rattle.def_calls.specs.World.{with_store}
use Rattle.def_calls.specs.Definitions.{instance_variable_told, text_if}
use Rattle.run_values.proofs.Answered.{answers_alike}
use Rattle.run_definitions.proofs.telling.instance_variable.Goals as goal

pub returns-clause-answers : goal.returns-clause-answers
unfolding instance_variable_told
returns-clause-answers c = answers_alike c.args.st.now c.text_if.new.st c.text_if.result
    (λ w. text_if w (codes "instance-variable") c.has_variable-there.result)
    (λ w. instance_variable_told w c.args.self_value c.args.name)
    (λ w. ap (text_if (with_store w c.args.st.now.store) (codes "instance-variable"))
    (sym c.has_variable-there.ensures))
    c.text_if.ensures.answers
