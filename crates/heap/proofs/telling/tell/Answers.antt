use Rattle.std.proofs.Common.{ℕ, List, true, ap, sym, ◌∙◌}
use Rattle.def_calls.specs.World as world
use Rattle.def_calls.specs.Definitions.{text_if}
use Rattle.run_values.proofs.Answered.{answers_alike}
use Rattle.heap.proofs.telling.tell.Goals as goal

pub returns-in_ok-bytes-clause-answers : goal.returns-in_ok-bytes-clause-answers
returns-in_ok-bytes-clause-answers c = answers_alike c.args.st.now c.make_text.new.st c.make_text.result
    (λ w. text_if w c.in_ok-bytes.bytes true) (λ w. text_if w c.args.text.now c.args.holds)
    (λ w. ap (text_if (world.with_store w c.args.st.now.store) c.args.text.now) c.if-holds.true
    ∙ ap (λ (bs : List ℕ). text_if (world.with_store w c.args.st.now.store) bs true)
    (sym c.in_ok-bytes.ensures))
    c.make_text.ensures.answers
