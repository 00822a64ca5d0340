use Rattle.std.proofs.Common.{refl, ap, sym}
use Rattle.std.specs.Prelude.{Option}
use Rattle.rb_value.specs.declared.value.Value.TheVariants.{Nil}
use Rattle.row_table.specs.declared.line.Line.{Line}
use Rattle.rb_store.proofs.Keeping.{keeps_itself}
use Rattle.def_rows.specs.Rows.{prim, by_line}
use Rattle.def_calls.specs.World as world
use Rattle.run_values.specs.declared.given.Given.TheVariants.{Gives}
use Rattle.run_values.proofs.Answered.{answers_done, answers_ok}
use Rattle.run_values.proofs.Causes.{raisable_as}
use Rattle.heap.proofs.Raised.{row_raisable}
use Rattle.heap.proofs.rows.call_own.Goals as goal

pub answer-requires-clause-sound : goal.answer-requires-clause-sound
answer-requires-clause-sound c = c.in_ok-outcome-in-Some.ensures.keeps.sound

pub answer-requires-clause-raisable : goal.answer-requires-clause-raisable
answer-requires-clause-raisable c = raisable_as c.in_ok-outcome-in-Some.outcome _
    c.in_ok-outcome-in-Some.ensures.does.outcome
    (row_raisable c.args.row c.args.receiver c.args.args.now c.args.block c.args.st.now.store)

pub returns-in_ok-outcome-in-Some : goal.returns-in_ok-outcome-in-Some
returns-in_ok-outcome-in-Some c = answers_done c.args.st.now c.call.new.st c.answer.new.st c.answer.result
    c.in_ok-outcome-in-Some.outcome (λ st. prim c.args.row c.args.receiver c.args.args.now c.args.block st)
    c.in_ok-outcome-in-Some.ensures.keeps c.in_ok-outcome-in-Some.ensures.does.outcome
    c.in_ok-outcome-in-Some.ensures.does.store c.answer.ensures.answers

pub returns-in-None : goal.returns-in-None
unfolding prim
returns-in-None c =
    let st = c.args.st.now.store in
    answers_ok c.args.st.now c.args.st.now (Gives Nil)
    (λ w. world.answer w (prim c.args.row c.args.receiver c.args.args.now c.args.block w.store)) (world.gives Nil) st
    (λ w. ap (λ (l : Option Line). world.answer (world.with_store w st)
    (by_line l c.args.receiver c.args.args.now c.args.block st)) (sym c.in-None.ensures)) refl refl tt
    (keeps_itself c.args.st.now c.args.st.now c.requires.sound refl)
