use Rattle.def_core.specs.Changes.{fails}
use Rattle.def_calls.specs.World as world
use Rattle.run_values.proofs.Answered.{answers_done}
use Rattle.run_values.proofs.Causes.{fails_raisable, raisable_as}
use Rattle.run_values.proofs.answering.fail.Goals as goal

pub answer-requires-clause-sound : goal.answer-requires-clause-sound
answer-requires-clause-sound c = c.in_ok-outcome.ensures.keeps.sound

pub answer-requires-clause-raisable : goal.answer-requires-clause-raisable
answer-requires-clause-raisable c = raisable_as c.in_ok-outcome.outcome _ c.in_ok-outcome.ensures.outcome
    (fails_raisable c.args.st.now.store c.args.cause)

pub returns : goal.returns
unfolding world.fail
returns c = answers_done c.args.st.now c.raise.new.st c.answer.new.st c.answer.result c.in_ok-outcome.outcome
    (λ st. fails st c.args.cause) c.in_ok-outcome.ensures.keeps c.in_ok-outcome.ensures.outcome
    c.in_ok-outcome.ensures.store c.answer.ensures.answers
