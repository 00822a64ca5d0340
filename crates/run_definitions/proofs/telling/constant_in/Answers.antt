use Rattle.std.proofs.Common.{ap, sym}
use Rattle.std.specs.Prelude.{codes}
use Rattle.def_calls.specs.World.{with_store}
use Rattle.def_calls.specs.Definitions.{constant_in_told, text_if}
use Rattle.run_values.proofs.Answered.{answers_alike}
use Rattle.run_definitions.proofs.telling.constant_in.Goals as goal

pub returns-clause-answers : goal.returns-clause-answers
unfolding constant_in_told
returns-clause-answers c = answers_alike c.args.st.now c.text_if.new.st c.text_if.result
    (λ w. text_if w (codes "constant") c.has_constant-there.result) (λ w. constant_in_told w c.args.value c.args.name)
    (λ w. ap (text_if (with_store w c.args.st.now.store) (codes "constant")) (sym (c.has_constant-there.ensures w)))
    c.text_if.ensures.answers
