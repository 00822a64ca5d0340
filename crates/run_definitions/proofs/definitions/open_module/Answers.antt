use Rattle.std.proofs.Common.{ap, sym}
use Rattle.std.specs.Prelude.{codes, Option}
use Rattle.rb_value.specs.declared.value.ObjId.{ObjId}
use Rattle.def_core.specs.Changes.{define_module}
use Rattle.def_calls.specs.World.{answer, with_store}
use Rattle.def_calls.specs.Values.{wrong_value}
use Rattle.def_calls.specs.Definitions.{open_module, with_space}
use Rattle.run_values.proofs.Answered.{answers_done, answers_alike}
use Rattle.run_values.proofs.Causes.{raisable_as}
use Rattle.run_definitions.proofs.Outcomes.{module_raisable}
use Rattle.run_definitions.proofs.definitions.open_module.Goals as goal

pub answer-requires-clause-sound : goal.answer-requires-clause-sound
answer-requires-clause-sound c = c.in_ok-outcome-in-Some.ensures.keeps.sound

pub answer-requires-clause-raisable : goal.answer-requires-clause-raisable
answer-requires-clause-raisable c = raisable_as c.in_ok-outcome-in-Some.outcome _ c.in_ok-outcome-in-Some.ensures.outcome
    (module_raisable c.args.st.now.store c.in-Some.class c.args.name)

pub returns-in_ok-outcome-in-Some : goal.returns-in_ok-outcome-in-Some
unfolding open_module
returns-in_ok-outcome-in-Some c =
    let st = c.args.st.now.store in
    answers_alike c.args.st.now c.answer.new.st c.answer.result
    (λ w. answer w (define_module w.store c.in-Some.class c.args.name)) _
    (λ w. ap (λ (o : Option ObjId). with_space (with_store w st) (codes "MODULE") c.args.scope o
    (λ k. answer (with_store w st) (define_module st k c.args.name))) (sym c.in-Some.ensures.space))
    (answers_done c.args.st.now c.define_module.new.st c.answer.new.st c.answer.result c.in_ok-outcome-in-Some.outcome
    (λ s. define_module s c.in-Some.class c.args.name) c.in_ok-outcome-in-Some.ensures.keeps
    c.in_ok-outcome-in-Some.ensures.outcome c.in_ok-outcome-in-Some.ensures.store c.answer.ensures.answers)

pub returns-in-None : goal.returns-in-None
unfolding open_module
returns-in-None c =
    let st = c.args.st.now.store in
    answers_alike c.args.st.now c.wrong_value.new.st c.wrong_value.result (λ w. wrong_value w (codes "MODULE")) _
    (λ w. ap (λ (o : Option ObjId). with_space (with_store w st) (codes "MODULE") c.args.scope o
    (λ k. answer (with_store w st) (define_module st k c.args.name))) (sym c.in-None.ensures.space))
    c.wrong_value.ensures
