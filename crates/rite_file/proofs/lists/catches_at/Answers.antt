use Rattle.std.proofs.Common.{◌∙◌, sym, refl, []}
use Rattle.std.proofs.lemmas.Result.{err_from_is_err_and}
use Rattle.rite_file.specs.Record.{any, catch_at, catches_at, list_at}
use Rattle.rite_file.proofs.Listing.{list_done, list_goes_on, list_fails, fails_as}
use Rattle.rite_file.proofs.lists.catches_at.Goals as goal

pub returns-in_err-entry-clause-value : goal.returns-in_err-entry-clause-value
unfolding catches_at
returns-in_err-entry-clause-value c =
    let p = err_from_is_err_and c.from_residual.result c.from_residual.ensures.1 in
    let failed = fails_as c.in_err-entry.field-0.0 (catch_at c.args.bytes.now c.entries.next)
    (sym c.in_err-entry.ensures.value) in
    rw (p.1, p.2) (list_fails any catch_at c.entries.catches c.args.count c.entries.counter c.args.bytes.now
    c.entries.next c.in_err-entry.field-0.0 (list_at any catch_at [] c.args.count c.args.bytes.now c.args.at)
    c.entries-test.true failed c.entries.invariant.same)

pub entries-preserved : goal.entries-preserved
entries-preserved c = record {
  within = c.in_ok-entry.ensures.within;
  same = list_goes_on any catch_at c.entries.catches c.push.new.self c.args.count c.entries.counter c.args.bytes.now
      c.entries.next c.in_ok-entry.entry c.in_ok-entry.after
      (list_at any catch_at [] c.args.count c.args.bytes.now c.args.at) c.entries-test.true
      (sym c.in_ok-entry.ensures.value) refl c.in_ok-push.ensures.ok c.entries.invariant.same;
}

pub returns-clause-value : goal.returns-clause-value
unfolding catches_at
returns-clause-value c = sym c.entries.invariant.same
    ∙ list_done any catch_at c.entries.catches c.args.count c.entries.counter c.args.bytes.now c.entries.next
    c.entries-test.false
