use Rattle.parser_ahead.proofs.Counting.{known_front, found}
use Rattle.parser_ahead.proofs.names.count_before.Goals as goal

pub returns-in-Some : goal.returns-in-Some
returns-in-Some c = λ known count are.
    let first = c.in-Some.ensures.lookup.3 in
    known_front c.args.kept.now known c.args.mark c.in-Some.first.now are
    (found c.args.kept.now c.args.mark c.in-Some.first.now first.0 (first.1 c.in-Some.first.now))
