use Rattle.std.proofs.Common.{◌≡◌, drop}
use Rattle.parser_tree.specs.PartsBy.{optionals_by}
use Rattle.parser_checks.specs.Places.{walk_all}
use Rattle.parser_checks.proofs.parts.check_optionals.Given as goal

abbrev pub invariant-loop-parameter : goal.invariant-loop-parameter
invariant-loop-parameter g l =
    walk_all l.context.around (optionals_by g.T.Placed.node (drop l.parameter-index l.parameters.items)) l.found
    ≡ walk_all l.context.around (optionals_by g.T.Placed.node l.parameters.items) l.fn.best
