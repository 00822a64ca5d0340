use Rattle.std.proofs.Common.{◌≡◌, drop}
use Rattle.parser_tree.specs.PartsBy.{pairs_by}
use Rattle.parser_checks.specs.Places.{walk_all}
use Rattle.parser_checks.proofs.parts.check_pairs.Given as goal

abbrev pub invariant-loop-pair : goal.invariant-loop-pair
invariant-loop-pair g l =
    walk_all l.context.around (pairs_by g.T.Placed.node (drop l.pair-index l.pairs.items)) l.found
    ≡ walk_all l.context.around (pairs_by g.T.Placed.node l.pairs.items) l.fn.best
