use Rattle.std.proofs.Common.{rules}
use Rattle.lower_table.proofs.Pushes.{pattern-pushed}
use Rattle.lower_table.proofs.functions.add_pattern.Goals as goal

pub returns-in_ok-push-in-Pattern : goal.returns-in_ok-push-in-Pattern
returns-in_ok-push-in-Pattern g c =
    let whole = g.met.T.Whole.whole c.in-Pattern.targets.value in search (rules, pattern-pushed)
