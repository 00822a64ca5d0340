use Rattle.std.proofs.Common.{ap, sym, ◌∙◌, subst}
use Rattle.rb_value.specs.declared.value.Value.TheVariants.{Nil}
use Rattle.rb_value.specs.declared.core_class.CoreClass.TheVariants as class
use Rattle.def_core.specs.Store.{core}
use Rattle.def_rows.specs.declared.answer.Answer.{Answer}
use Rattle.def_rows.specs.Answers.{finish}
use Rattle.def_rows.specs.RangeRows.{made, kept_ends, item_of}
use Rattle.def_calls.specs.Values.{make_range}
use Rattle.run_values.specs.Raisable.{IsRaisable}
use Rattle.run_values.proofs.Answered.{answers_done, answers_failed}
use Rattle.run_values.proofs.RangeMade.{made_raisable}
use Rattle.run_values.proofs.ranges.make_range.Goals as goal

pub answer-requires-clause-sound : goal.answer-requires-clause-sound
answer-requires-clause-sound c = c.in_ok-outcome.ensures.keeps.sound

pub answer-requires-clause-belongs : goal.answer-requires-clause-belongs
answer-requires-clause-belongs c = c.in_ok-outcome.ensures.belongs

pub answer-requires-clause-raisable : goal.answer-requires-clause-raisable
answer-requires-clause-raisable c =
    let st = c.args.st.now.store in
    subst IsRaisable (sym (c.in_ok-outcome.ensures.does.outcome
    ∙ ap (λ (a : Answer). (finish st Nil a).outcome) c.range-made.ensures.range))
    (made_raisable st Nil c.args.exclusive (kept_ends (item_of st.objects c.args.first)
    (item_of st.objects c.args.last)))

pub returns-in_err-outcome : goal.returns-in_err-outcome
returns-in_err-outcome c = answers_failed _ _ _ _ c.from_residual.ensures.0 c.in_err-outcome.ensures.keeps

pub returns : goal.returns
unfolding make_range
returns c = answers_done c.args.st.now c.finish.new.st c.answer.new.st c.answer.result c.in_ok-outcome.outcome
    (λ st. finish st Nil (made (core class.Range) c.args.exclusive
    (kept_ends (item_of st.objects c.args.first) (item_of st.objects c.args.last)))) c.in_ok-outcome.ensures.keeps
    (c.in_ok-outcome.ensures.does.outcome
    ∙ ap (λ (a : Answer). (finish c.args.st.now.store Nil a).outcome) c.range-made.ensures.range)
    (c.in_ok-outcome.ensures.does.store
    ∙ ap (λ (a : Answer). (finish c.args.st.now.store Nil a).store) c.range-made.ensures.range)
    c.answer.ensures.answers
