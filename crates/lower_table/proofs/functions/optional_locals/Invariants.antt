use Rattle.std.proofs.Common.{◌≡◌, ◌++◌, drop}
use Rattle.parser_tree.specs.PartsBy.{optionals_by}
use Rattle.ir_core.specs.View.{locals_of}
use Rattle.lower_table.specs.Parts as read
use Rattle.lower_table.proofs.functions.optional_locals.Given as goal

abbrev pub invariant-loop-parameter : goal.invariant-loop-parameter
invariant-loop-parameter g l =
    locals_of l.locals.items
    ++ read.optional_locals (optionals_by g.T.Whole.node (drop l.parameter-index l.parameters))
    ≡ read.optional_locals (optionals_by g.T.Whole.node l.parameters)
