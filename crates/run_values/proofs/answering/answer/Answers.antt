use Rattle.std.proofs.Common.{ap}
use Rattle.def_calls.specs.World as world
use Rattle.run_values.proofs.Answered.{answers_alike}
use Rattle.run_values.proofs.answering.answer.Goals as goal

pub returns-in-Raise-clause-answers : goal.returns-in-Raise-clause-answers
returns-in-Raise-clause-answers c =
    let st = c.args.st.now.store in
    answers_alike c.args.st.now c.raise_failure.new.st c.raise_failure.result _
    (λ w. world.answer_in w w.store c.args.outcome) (λ w. ap (world.answer_in (world.with_store w st) st) c.in-Raise.is)
    c.raise_failure.ensures.answers
