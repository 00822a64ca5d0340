use Rattle.def_core.specs.Changes.{singleton}
use Rattle.def_calls.specs.Definitions.{singleton_class}
use Rattle.run_values.proofs.Answered.{answers_done}
use Rattle.run_values.proofs.Causes.{raisable_as}
use Rattle.run_definitions.proofs.Outcomes.{singleton_raisable}
use Rattle.run_definitions.proofs.definitions.singleton_class.Goals as goal

pub answer-requires-clause-sound : goal.answer-requires-clause-sound
answer-requires-clause-sound c = c.in_ok-outcome.ensures.keeps.sound

pub answer-requires-clause-raisable : goal.answer-requires-clause-raisable
answer-requires-clause-raisable c = raisable_as c.in_ok-outcome.outcome _ c.in_ok-outcome.ensures.outcome
    (singleton_raisable c.args.st.now.store c.args.value)

pub returns : goal.returns
unfolding singleton_class
returns c = answers_done c.args.st.now c.singleton.new.st c.answer.new.st c.answer.result c.in_ok-outcome.outcome
    (λ st. singleton st c.args.value) c.in_ok-outcome.ensures.keeps c.in_ok-outcome.ensures.outcome
    c.in_ok-outcome.ensures.store c.answer.ensures.answers
