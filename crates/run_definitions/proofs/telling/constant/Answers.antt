use Rattle.std.proofs.Common.{ap, sym}
use Rattle.std.specs.Prelude.{codes}
use Rattle.def_calls.specs.World.{with_store}
use Rattle.def_calls.specs.Definitions.{constant_told, text_if}
use Rattle.run_definitions.specs.Enclosing.{enclosed}
use Rattle.run_definitions.proofs.Among.{answers_among}
use Rattle.run_definitions.proofs.telling.constant.Goals as goal

pub returns-clause-answers : goal.returns-clause-answers
unfolding constant_told
returns-clause-answers c = answers_among c.args.lists.now c.args.st.now c.text_if.new.st c.text_if.result
    (λ w. constant_told w c.args.number c.args.name) (λ w. text_if w (codes "constant") c.sees_constant-there.result)
    (λ w. ap (text_if (with_store (enclosed c.args.lists.now w) c.args.st.now.store) (codes "constant"))
    (sym (c.sees_constant-there.ensures w))) c.text_if.ensures.answers
