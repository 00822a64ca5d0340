use Rattle.std.proofs.Common.{◌≡◌, [], ap, sym, ◌∙◌}
use Rattle.std.proofs.lemmas.Result.{on_ok_weaker, on_err_weaker}
use Rattle.def_core.specs.Parts.{text_at}
use Rattle.heap.specs.Changes.{with_bytes, with_more_bytes}
use Rattle.heap.proofs.Lent.{given_back, appended_and_given_back}
use Rattle.heap.proofs.heap.Heap.append_lent.Goals as goal

pub returns-clause-ok : goal.returns-clause-ok
returns-clause-ok c =
    let held = c.args.self.now in
    let lent = c.take_text-lent.ensures.before c.requires.string in
    on_ok_weaker c.append_bytes-answer.result (λ e.
    c.put_text.ensures.replaced
    ∙ ap (λ h. with_bytes h c.args.from c.take_text-lent.result)
    (e ∙ ap (λ t. with_more_bytes c.take_text-lent.new.self c.args.id t) c.as_slice.ensures)
    ∙ ap (λ h. with_bytes (with_more_bytes h c.args.id c.take_text-lent.result) c.args.from c.take_text-lent.result)
    c.take_text-lent.ensures.taken
    ∙ ap (λ t. with_bytes (with_more_bytes (with_bytes held c.args.from []) c.args.id t) c.args.from t) lent
    ∙ appended_and_given_back held c.args.id c.args.from c.requires.apart c.requires.string)
    c.append_bytes-answer.ensures.ok

pub returns-clause-err : goal.returns-clause-err
returns-clause-err c =
    let held = c.args.self.now in
    let lent = c.take_text-lent.ensures.before c.requires.string in
    on_err_weaker c.append_bytes-answer.result (λ e.
    c.put_text.ensures.replaced
    ∙ ap (λ h. with_bytes h c.args.from c.take_text-lent.result) (e ∙ c.take_text-lent.ensures.taken)
    ∙ ap (λ t. with_bytes (with_bytes held c.args.from []) c.args.from t) lent
    ∙ given_back held c.args.from c.requires.string)
    c.append_bytes-answer.ensures.err
