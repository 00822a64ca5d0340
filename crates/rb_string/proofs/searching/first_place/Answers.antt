use Rattle.std.proofs.Common.{Some, None, drop}
use Rattle.memchr.specs.Find.{FindsNeedle}
use Rattle.rb_string.proofs.Searches.{first_value, first_in_rest}
use Rattle.rb_string.proofs.searching.first_place.Goals as goal

pub returns-in_err-at-clause-value : goal.returns-in_err-at-clause-value
returns-in_err-at-clause-value c =
    let found : FindsNeedle (drop c.args.from c.args.text.now) c.args.other.now 0 None =
    rw c.rest.ensures at c.in_err-at.ensures in
    rw c.from_residual.ensures (first_value c.args.text.now c.args.other.now c.args.from None
    (first_in_rest c.args.text.now c.args.other.now c.args.from c.requires None found))

pub returns-in_err-at-clause-first : goal.returns-in_err-at-clause-first
returns-in_err-at-clause-first c =
    let found : FindsNeedle (drop c.args.from c.args.text.now) c.args.other.now 0 None =
    rw c.rest.ensures at c.in_err-at.ensures in
    rw c.from_residual.ensures
    (first_in_rest c.args.text.now c.args.other.now c.args.from c.requires None found)

pub returns-clause-value : goal.returns-clause-value
returns-clause-value c =
    let found : FindsNeedle (drop c.args.from c.args.text.now) c.args.other.now 0 (Some c.in_ok-at.at) =
    rw c.rest.ensures at c.in_ok-at.ensures in
    first_value c.args.text.now c.args.other.now c.args.from (Some _)
    (first_in_rest c.args.text.now c.args.other.now c.args.from c.requires (Some c.in_ok-at.at) found)

pub returns-clause-first : goal.returns-clause-first
returns-clause-first c =
    let found : FindsNeedle (drop c.args.from c.args.text.now) c.args.other.now 0 (Some c.in_ok-at.at) =
    rw c.rest.ensures at c.in_ok-at.ensures in
    first_in_rest c.args.text.now c.args.other.now c.args.from c.requires (Some c.in_ok-at.at) found
