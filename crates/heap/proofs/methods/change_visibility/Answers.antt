use Rattle.def_core.specs.Changes.{set_visibility}
use Rattle.run_values.proofs.Answered.{answers_done}
use Rattle.run_values.proofs.Causes.{raisable_as}
use Rattle.heap.proofs.Raised.{visibility_raisable}
use Rattle.heap.proofs.methods.change_visibility.Goals as goal

pub answer-requires-clause-sound : goal.answer-requires-clause-sound
answer-requires-clause-sound c = c.in_ok-outcome.ensures.keeps.sound

pub answer-requires-clause-raisable : goal.answer-requires-clause-raisable
answer-requires-clause-raisable c = raisable_as c.in_ok-outcome.outcome _ c.in_ok-outcome.ensures.outcome
    (visibility_raisable c.args.st.now.store c.args.class c.args.name c.args.visibility)

pub returns : goal.returns
returns c = answers_done c.args.st.now c.set_visibility.new.st c.answer.new.st c.answer.result c.in_ok-outcome.outcome
    (λ st. set_visibility st c.args.class c.args.name c.args.visibility) c.in_ok-outcome.ensures.keeps c.in_ok-outcome.ensures.outcome
    c.in_ok-outcome.ensures.store c.answer.ensures.answers
