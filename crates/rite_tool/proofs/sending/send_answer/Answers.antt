use Rattle.std.proofs.Common.{inl, inr, refl}
use Rattle.rite_tool.proofs.sending.send_answer.Goals as goal

pub returns-in-Ok-clause-answer : goal.returns-in-Ok-clause-answer
returns-in-Ok-clause-answer g c = λ text given says.
    let said = c.in-Ok.ensures.says text given says in
    inl (refl, said.0, said.1)

pub returns-in-Err-clause-answer : goal.returns-in-Err-clause-answer
returns-in-Err-clause-answer g c = λ text given says.
    let said = c.in-Err.ensures.says text given says in
    inr (refl, said.0, said.1)
