use Rattle.std.proofs.Common.{ℕ, List, true, refl, ap, sym, ◌∙◌}
use Rattle.rb_value.specs.declared.value.Value.TheVariants.{Nil}
use Rattle.rb_store.proofs.Keeping.{keeps_itself}
use Rattle.def_calls.specs.World as world
use Rattle.def_calls.specs.Definitions.{text_if}
use Rattle.run_values.specs.declared.given.Given.TheVariants.{Gives}
use Rattle.run_values.proofs.Answered.{answers_ok, answers_alike}
use Rattle.run_definitions.proofs.telling.text_if.Goals as goal

pub returns-in_ok-bytes-clause-answers : goal.returns-in_ok-bytes-clause-answers
returns-in_ok-bytes-clause-answers c = answers_alike c.args.st.now c.make_text.new.st c.make_text.result
    (λ w. text_if w c.in_ok-bytes.bytes true) (λ w. text_if w c.args.text.now c.args.told)
    (λ w. ap (text_if (world.with_store w c.args.st.now.store) c.args.text.now) c.if-told.true
    ∙ ap (λ (bs : List ℕ). text_if (world.with_store w c.args.st.now.store) bs true)
    (sym c.in_ok-bytes.ensures))
    c.make_text.ensures.answers

pub returns-else-told-clause-answers : goal.returns-else-told-clause-answers
returns-else-told-clause-answers c = answers_ok c.args.st.now c.args.st.now (Gives Nil)
    (λ w. text_if w c.args.text.now c.args.told) (world.gives Nil) c.args.st.now.store
    (λ w. ap (text_if (world.with_store w c.args.st.now.store) c.args.text.now) c.if-told.false) refl refl tt
    (keeps_itself c.args.st.now c.args.st.now c.requires refl)
