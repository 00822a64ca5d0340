use Rattle.std.proofs.Common.{ap, sym, ◌∙◌}
use Rattle.rb_value.specs.declared.value.SymId.{SymId}
use Rattle.def_core.specs.declared.cause.Cause.TheVariants as cause
use Rattle.def_core.specs.Store.{Store}
use Rattle.def_core.specs.Changes.{intern}
use Rattle.def_calls.specs.World as world
use Rattle.def_calls.specs.Values.{wrong_value}
use Rattle.run_values.proofs.Answered.{answers_then, answers_failed}
use Rattle.run_values.proofs.answering.wrong_value.Goals as goal

pub fail-requires-clause-sound : goal.fail-requires-clause-sound
fail-requires-clause-sound c = (c.in_ok-symbol.ensures.keeps c.requires).sound

pub fail-requires-clause-cause : goal.fail-requires-clause-cause
fail-requires-clause-cause c = record { below = c.in_ok-symbol.ensures.within }

pub returns-in_err-symbol : goal.returns-in_err-symbol
returns-in_err-symbol c =
    answers_failed _ _ _ _ c.from_residual.ensures.0 (c.in_err-symbol.ensures.keeps c.requires)

pub returns : goal.returns
unfolding wrong_value
returns c =
    let named = intern c.args.st.now.store c.args.instruction.now in
    answers_then c.args.st.now c.intern.new.self c.fail.new.st c.fail.result _
    (λ w. world.fail w (cause.WrongValue c.in_ok-symbol.symbol)) (c.in_ok-symbol.ensures.keeps c.requires)
    (λ w. ap (λ (s : SymId). world.fail (world.with_store w named.store) (cause.WrongValue s))
    (sym c.in_ok-symbol.ensures.symbol)
    ∙ ap (λ (st : Store). world.fail (world.with_store w st) (cause.WrongValue c.in_ok-symbol.symbol))
    (sym c.in_ok-symbol.ensures.ok)) c.fail.ensures
