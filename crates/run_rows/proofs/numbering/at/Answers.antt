use Rattle.std.proofs.Common.{◌<◌, ◌≤◌, length, ◌∙◌, ap, arith}
use Rattle.std.specs.Prelude.{Err}
use Rattle.std.proofs.lemmas.Bool.Decides.{nat_tests}
use Rattle.run_rows.proofs.Placed.{element_there, element_behind}
use Rattle.run_rows.proofs.numbering.at.Goals as goal

pub returns-in-Some : goal.returns-in-Some
returns-in-Some g c =
    let within : c.args.place < length c.args.rows.now = grind (arith, nat_tests, c.in-Some.ensures.lookup.0) in
    element_there (λ r. (r.0.now, r.1)) c.args.rows.now c.args.place c.in-Some.field-0.now _ within
    c.in-Some.ensures.lookup.1

pub returns-in-None : goal.returns-in-None
returns-in-None g c =
    let behind : length c.args.rows.now ≤ c.args.place = grind (arith, nat_tests, c.in-None.ensures.lookup.0) in
    ap Err c.saturating_sub.ensures ∙ element_behind (λ r. (r.0.now, r.1)) c.args.rows.now c.args.place behind
