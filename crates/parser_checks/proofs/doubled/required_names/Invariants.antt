use Rattle.std.proofs.Common.{◌≡◌, ◌++◌, drop}
use Rattle.parser_tree.specs.PartsBy.{parameters_by}
use Rattle.parser_checks.specs.Doubled.{all_bound}
use Rattle.parser_checks.proofs.doubled.required_names.Given as goal

abbrev pub invariant-loop-parameter : goal.invariant-loop-parameter
invariant-loop-parameter g l =
    l.names ++ all_bound (parameters_by g.T.Placed.node (drop l.parameter-index l.parameters.items))
    ≡ l.fn.names ++ all_bound (parameters_by g.T.Placed.node l.parameters.items)
