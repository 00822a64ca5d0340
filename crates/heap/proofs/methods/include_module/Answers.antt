use Rattle.def_core.specs.Changes.{include}
use Rattle.run_values.proofs.Answered.{answers_done}
use Rattle.run_values.proofs.Causes.{raisable_as}
use Rattle.heap.proofs.Raised.{include_raisable}
use Rattle.heap.proofs.methods.include_module.Goals as goal

pub answer-requires-clause-sound : goal.answer-requires-clause-sound
answer-requires-clause-sound c = c.in_ok-outcome.ensures.keeps.sound

pub answer-requires-clause-raisable : goal.answer-requires-clause-raisable
answer-requires-clause-raisable c = raisable_as c.in_ok-outcome.outcome _ c.in_ok-outcome.ensures.outcome
    (include_raisable c.args.st.now.store c.args.class c.args.mixin)

pub returns : goal.returns
returns c = answers_done c.args.st.now c.include.new.st c.answer.new.st c.answer.result c.in_ok-outcome.outcome
    (λ st. include st c.args.class c.args.mixin) c.in_ok-outcome.ensures.keeps c.in_ok-outcome.ensures.outcome
    c.in_ok-outcome.ensures.store c.answer.ensures.answers
