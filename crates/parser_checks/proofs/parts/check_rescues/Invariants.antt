use Rattle.std.proofs.Common.{◌≡◌, drop}
use Rattle.parser_tree.specs.PartsBy.{rescues_by}
use Rattle.parser_checks.specs.Places.{walk_all}
use Rattle.parser_checks.proofs.parts.check_rescues.Given as goal

abbrev pub invariant-loop-clause : goal.invariant-loop-clause
invariant-loop-clause g l =
    walk_all l.context.around (rescues_by g.T.Placed.node (drop l.clause-index l.clauses.items)) l.found
    ≡ walk_all l.context.around (rescues_by g.T.Placed.node l.clauses.items) l.fn.best
