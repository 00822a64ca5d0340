use Rattle.std.proofs.Common.{◌≡◌, true, false, ◌∙◌, sym, rules, []}
use Rattle.std.proofs.lemmas.Result.{err_from_is_err_and}
use Rattle.rite_file.specs.Record.{is_new, item_eq, item_at, list_at}
use Rattle.rite_file.proofs.Listing.{list_done, list_goes_on, list_fails, list_refuses}
use Rattle.rite_file.proofs.SeenItems.{item_before}
use Rattle.rite_file.proofs.distinct.many_items_at.Goals as goal

pub entries-init : goal.entries-init
entries-init c = rw (c.new-items.ensures, c.new-integers.ensures, c.new-texts.ensures) (search rules)

pub add_item-requires-clause-stands : goal.add_item-requires-clause-stands
add_item-requires-clause-stands c =
    item_before c.args.bytes.now c.entries.next c.in_ok-item.item c.in_ok-item.after c.in_ok-item.ensures.value

pub returns-in_err-item-clause-value : goal.returns-in_err-item-clause-value
returns-in_err-item-clause-value c =
    let p = err_from_is_err_and c.from_residual.result c.from_residual.ensures.1 in
    rw (p.1, p.2) (list_fails (is_new item_eq) item_at c.entries.items c.args.count c.entries.counter c.args.bytes.now
    c.entries.next c.in_err-item.field-0.0
    (list_at (is_new item_eq) item_at [] c.args.count c.args.bytes.now c.args.at) c.entries-test.true
    c.in_err-item.ensures.value c.entries.invariant.same)

pub returns-then-not-fresh-clause-value : goal.returns-then-not-fresh-clause-value
returns-then-not-fresh-clause-value c =
    let told = c.in_ok-fresh.ensures.fresh c.entries.items c.entries.invariant.seen in
    let old : is_new item_eq c.entries.items c.in_ok-item.item ≡ false = sym told ∙ c.if-not-fresh.true in
    rw c.bad.ensures (list_refuses (is_new item_eq) item_at c.entries.items c.args.count c.entries.counter
    c.args.bytes.now c.entries.next c.in_ok-item.item c.in_ok-item.after
    (list_at (is_new item_eq) item_at [] c.args.count c.args.bytes.now c.args.at) c.entries-test.true
    c.in_ok-item.ensures.value old c.entries.invariant.same)

pub entries-preserved : goal.entries-preserved
entries-preserved c =
    let told = c.in_ok-fresh.ensures.fresh c.entries.items c.entries.invariant.seen in
    let new : is_new item_eq c.entries.items c.in_ok-item.item ≡ true = sym told ∙ c.if-not-fresh.false in
    record {
      within = c.in_ok-item.ensures.within;
      same = list_goes_on (is_new item_eq) item_at c.entries.items c.push.new.self c.args.count c.entries.counter
          c.args.bytes.now c.entries.next c.in_ok-item.item c.in_ok-item.after
          (list_at (is_new item_eq) item_at [] c.args.count c.args.bytes.now c.args.at) c.entries-test.true
          c.in_ok-item.ensures.value new c.in_ok-push.ensures.ok c.entries.invariant.same;
      seen = rw c.in_ok-push.ensures.ok
          (c.in_ok-fresh.ensures.grown c.entries.items c.entries.invariant.seen c.if-not-fresh.false);
    }

pub returns-clause-value : goal.returns-clause-value
returns-clause-value c = sym c.entries.invariant.same
    ∙ list_done (is_new item_eq) item_at c.entries.items c.args.count c.entries.counter c.args.bytes.now
    c.entries.next c.entries-test.false
