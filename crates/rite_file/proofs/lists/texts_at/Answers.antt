use Rattle.std.proofs.Common.{◌≡◌, true, false, ◌∙◌, sym, ap, []}
use Rattle.std.specs.Prelude.{not}
use Rattle.std.specs.Str.{bytes_eq}
use Rattle.std.specs.List.{list_any}
use Rattle.std.proofs.lemmas.Result.{err_from_is_err_and}
use Rattle.rite_file.specs.Record.{is_new, text_at, list_at}
use Rattle.rite_file.proofs.Listing.{list_done, list_goes_on, list_fails, list_refuses}
use Rattle.rite_file.proofs.lists.texts_at.Goals as goal

pub returns-in_err-text-clause-value : goal.returns-in_err-text-clause-value
returns-in_err-text-clause-value c =
    let p = err_from_is_err_and c.from_residual.result c.from_residual.ensures.1 in
    rw (p.1, p.2) (list_fails (is_new bytes_eq) text_at c.entries.texts c.args.count c.entries.counter
    c.args.bytes.now c.entries.next c.in_err-text.field-0.0
    (list_at (is_new bytes_eq) text_at [] c.args.count c.args.bytes.now c.args.at) c.entries-test.true
    c.in_err-text.ensures.value c.entries.invariant.same)

pub returns-then-has_text-clause-value : goal.returns-then-has_text-clause-value
returns-then-has_text-clause-value c =
    let old : is_new bytes_eq c.entries.texts c.in_ok-text.text ≡ false =
    ap not (ap (list_any (λ y. bytes_eq y c.in_ok-text.text)) (sym c.as_slice.ensures) ∙ sym c.has_text.ensures
    ∙ c.if-has_text.true) in
    let refused = list_refuses (is_new bytes_eq) text_at c.entries.texts c.args.count c.entries.counter
    c.args.bytes.now c.entries.next c.in_ok-text.text c.in_ok-text.after
    (list_at (is_new bytes_eq) text_at [] c.args.count c.args.bytes.now c.args.at) c.entries-test.true
    c.in_ok-text.ensures.value old c.entries.invariant.same in
    rw c.bad.ensures refused

pub entries-preserved : goal.entries-preserved
entries-preserved c =
    let new : is_new bytes_eq c.entries.texts c.in_ok-text.text ≡ true =
    ap not (ap (list_any (λ y. bytes_eq y c.in_ok-text.text)) (sym c.as_slice.ensures) ∙ sym c.has_text.ensures
    ∙ c.if-has_text.false) in
    record {
      within = c.in_ok-text.ensures.within;
      same = list_goes_on (is_new bytes_eq) text_at c.entries.texts c.push.new.self c.args.count c.entries.counter
          c.args.bytes.now c.entries.next c.in_ok-text.text c.in_ok-text.after
          (list_at (is_new bytes_eq) text_at [] c.args.count c.args.bytes.now c.args.at) c.entries-test.true
          c.in_ok-text.ensures.value new c.in_ok-push.ensures.ok c.entries.invariant.same;
    }

pub returns-clause-value : goal.returns-clause-value
returns-clause-value c = sym c.entries.invariant.same
    ∙ list_done (is_new bytes_eq) text_at c.entries.texts c.args.count c.entries.counter c.args.bytes.now
    c.entries.next c.entries-test.false
