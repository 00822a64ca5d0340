use Rattle.std.proofs.Common.{ap, sym}
use Rattle.std.specs.Prelude.{codes}
use Rattle.def_calls.specs.World.{Activation, with_store}
use Rattle.def_calls.specs.Definitions.{super_told, text_if}
use Rattle.run_values.proofs.Answered.{answers_alike}
use Rattle.run_definitions.proofs.telling.super_method.Goals as goal

pub returns-clause-answers : goal.returns-clause-answers
unfolding super_told
returns-clause-answers c = λ a. answers_alike c.args.st.now c.text_if.new.st c.text_if.result
    (λ w. text_if w (codes "super") c.has_super-there.result)
    (λ w. let b : Activation = record a { self = c.args.self_value; owner = c.args.owner; name = c.args.name } in
    super_told w b)
    (λ w. ap (text_if (with_store w c.args.st.now.store) (codes "super")) (sym (c.has_super-there.ensures w)))
    c.text_if.ensures.answers
