use Rattle.std.proofs.Common.{◌≡◌, true, false, ◌∙◌, sym, [], arith}
use Rattle.std.specs.Str.{bytes_eq}
use Rattle.std.proofs.lemmas.Result.{err_from_is_err_and}
use Rattle.rite_file.specs.Record.{is_new, text_at, list_at}
use Rattle.rite_file.proofs.Among.{text_before, told_new, grown}
use Rattle.rite_file.proofs.Listing.{list_done, list_goes_on, list_fails, list_refuses}
use Rattle.rite_file.proofs.distinct.many_texts_at.Goals as goal

pub bytes_before-requires-clause-enough : goal.bytes_before-requires-clause-enough
bytes_before-requires-clause-enough c =
    omega (
      arith,
      c.len.ensures,
      (text_before c.args.bytes.now c.entries.next c.in_ok-text.text c.in_ok-text.after
          c.in_ok-text.ensures.value).enough,
    )

pub returns-in_err-text-clause-value : goal.returns-in_err-text-clause-value
returns-in_err-text-clause-value c =
    let p = err_from_is_err_and c.from_residual.result c.from_residual.ensures.1 in
    rw (p.1, p.2) (list_fails (is_new bytes_eq) text_at c.entries.texts c.args.count c.entries.counter
    c.args.bytes.now c.entries.next c.in_err-text.field-0.0
    (list_at (is_new bytes_eq) text_at [] c.args.count c.args.bytes.now c.args.at) c.entries-test.true
    c.in_err-text.ensures.value c.entries.invariant.same)

pub returns-then-not-fresh-clause-value : goal.returns-then-not-fresh-clause-value
returns-then-not-fresh-clause-value c =
    let before = text_before c.args.bytes.now c.entries.next c.in_ok-text.text c.in_ok-text.after
    c.in_ok-text.ensures.value in
    let spelled : c.bytes_before.result.now ≡ c.in_ok-text.text =
    rw c.len.ensures at c.bytes_before.ensures ∙ before.is in
    let old : is_new bytes_eq c.entries.texts c.in_ok-text.text ≡ false =
    told_new c.in_ok-fresh.fresh c.bytes_before.result.now c.in_ok-text.text c.entries.seen c.entries.texts
    c.in_ok-fresh.ensures.fresh spelled c.entries.invariant.seen ∙ c.if-not-fresh.true in
    let refused = list_refuses (is_new bytes_eq) text_at c.entries.texts c.args.count c.entries.counter
    c.args.bytes.now c.entries.next c.in_ok-text.text c.in_ok-text.after
    (list_at (is_new bytes_eq) text_at [] c.args.count c.args.bytes.now c.args.at) c.entries-test.true
    c.in_ok-text.ensures.value old c.entries.invariant.same in
    rw c.bad.ensures refused

pub entries-preserved : goal.entries-preserved
entries-preserved c =
    let before = text_before c.args.bytes.now c.entries.next c.in_ok-text.text c.in_ok-text.after
    c.in_ok-text.ensures.value in
    let spelled : c.bytes_before.result.now ≡ c.in_ok-text.text =
    rw c.len.ensures at c.bytes_before.ensures ∙ before.is in
    let told = told_new c.in_ok-fresh.fresh c.bytes_before.result.now c.in_ok-text.text c.entries.seen c.entries.texts
    c.in_ok-fresh.ensures.fresh spelled c.entries.invariant.seen in
    let new : is_new bytes_eq c.entries.texts c.in_ok-text.text ≡ true = told ∙ c.if-not-fresh.false in
    record {
      within = c.in_ok-text.ensures.within;
      same = list_goes_on (is_new bytes_eq) text_at c.entries.texts c.push.new.self c.args.count c.entries.counter
          c.args.bytes.now c.entries.next c.in_ok-text.text c.in_ok-text.after
          (list_at (is_new bytes_eq) text_at [] c.args.count c.args.bytes.now c.args.at) c.entries-test.true
          c.in_ok-text.ensures.value new c.in_ok-push.ensures.ok c.entries.invariant.same;
      seen = c.in_ok-fresh.ensures.set
          ∙ grown c.bytes_before.result.now c.in_ok-text.text c.entries.seen c.entries.texts new spelled
          c.entries.invariant.seen ∙ sym c.in_ok-push.ensures.ok;
    }

pub returns-clause-value : goal.returns-clause-value
returns-clause-value c = sym c.entries.invariant.same
    ∙ list_done (is_new bytes_eq) text_at c.entries.texts c.args.count c.entries.counter c.args.bytes.now
    c.entries.next c.entries-test.false
