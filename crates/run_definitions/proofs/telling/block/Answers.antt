use Rattle.std.proofs.Common.{ap, sym}
use Rattle.std.specs.Prelude.{codes}
use Rattle.def_calls.specs.World.{Activation, with_store}
use Rattle.def_calls.specs.Definitions.{yield_told, text_if}
use Rattle.run_values.proofs.Answered.{answers_alike}
use Rattle.run_definitions.proofs.telling.block.Goals as goal

pub returns-clause-answers : goal.returns-clause-answers
unfolding yield_told
returns-clause-answers c = λ a. answers_alike c.args.st.now c.text_if.new.st c.text_if.result
    (λ w. text_if w (codes "yield") c.is_some.result)
    (λ w. let b : Activation = record a { block = c.args.block } in yield_told w b)
    (λ w. ap (text_if (with_store w c.args.st.now.store) (codes "yield")) (sym c.is_some.ensures))
    c.text_if.ensures.answers
